-- Soups over numbers: triangles with two equal corners may be dropped, and in a balanced soup each directed edge is used as often as its reverse.
-- Assumes nothing.
use Rattle.std.specs.Prelude.{◌≡◌, refl, List, [], ◌∷◌, map, Bool, true, false, cond, ◌&&◌, ℕ, ◌+◌, eqb}
use Rattle.std.proofs.Common.{sym, ap, ◌∙◌, arith}
use Rattle.std.proofs.Math.Path.{fun_ext}
use Rattle.mesh_balance_spec.specs.Soup.{Tri, Weight, rev, round, sum, Balanced, Flat, flat_even, map_tri, balanced_map}

module _ {P : Type 0} where
  -- the triangles that pass a test, in their order
  abbrev pub keep_if : (Tri P → Bool) → List (Tri P) → List (Tri P)
  keep_if k [] = []
  keep_if k (t ∷ ts) = cond (k t) (t ∷ keep_if k ts) (keep_if k ts)

  module _ (k : Tri P → Bool) (flat : (t : Tri P) → k t ≡ false → Flat t) where
    keep_step : (w : Weight P) (t : Tri P) (ts ks : List (Tri P)) (b : Bool) → k t ≡ b → sum w ts + sum (rev w) ks ≡ sum (rev w) ts + sum w ks
        → round w t + sum w ts + sum (rev w) (cond b (t ∷ ks) ks) ≡ round (rev w) t + sum (rev w) ts + sum w (cond b (t ∷ ks) ks)
    keep_step w t ts ks true e h = omega arith
    keep_step w t ts ks false e h = omega (arith, flat_even w t (flat t e))

    keep_even : (w : Weight P) (ts : List (Tri P)) → sum w ts + sum (rev w) (keep_if k ts) ≡ sum (rev w) ts + sum w (keep_if k ts)
    keep_even w [] = refl
    keep_even w (t ∷ ts) = keep_step w t ts (keep_if k ts) (k t) refl (keep_even w ts)

    pub balanced_keep : (ts : List (Tri P)) → Balanced ts → Balanced (keep_if k ts)
    balanced_keep ts p w = omega (arith, keep_even w ts, p w)

-- the directed edges of a soup: three a triangle, from each corner to the next one
abbrev pub edges : {P : Type 0} → List (Tri P) → List (P × P)
edges [] = []
edges (t ∷ ts) = (t.0, t.1) ∷ (t.1, t.2) ∷ (t.2, t.0) ∷ edges ts

-- 1 where the edge (a, b) is (u, v), else 0
abbrev pub here : ℕ → ℕ → ℕ → ℕ → ℕ
here u v a b = cond (eqb a u && eqb b v) 1 0

-- how often the directed edge (u, v) is among the edges
abbrev pub uses : ℕ → ℕ → List (ℕ × ℕ) → ℕ
uses u v [] = 0
uses u v (e ∷ es) = here u v e.0 e.1 + uses u v es

pub uses_sum : (u v : ℕ) (ts : List (Tri ℕ)) → uses u v (edges ts) ≡ sum (here u v) ts
uses_sum u v [] = refl
uses_sum u v (t ∷ ts) = omega (arith, uses_sum u v ts)

and_comm : (a b : Bool) → (a && b) ≡ (b && a)
and_comm true true = refl
and_comm true false = refl
and_comm false true = refl
and_comm false false = refl

pub here_rev : (u v : ℕ) → here v u ≡ rev (here u v)
here_rev u v = fun_ext (λ a. fun_ext (λ b. ap (λ (c : Bool). cond c 1 0) (and_comm (eqb a v) (eqb b u))))

-- docs/SCOPE.md, "Words of demand 3": each directed edge (u, v) is used exactly as often as its reverse (v, u)
abbrev pub EdgesBalance : List (Tri ℕ) → Type 0
EdgesBalance ts = (u v : ℕ) → uses u v (edges ts) ≡ uses v u (edges ts)
