-- How often triangles use a directed edge, and the loop that counts. Assumes nothing.
use mathlib.Core.Path.{◌≡◌, refl, ap}
use mathlib.Core.Bool.{Bool, true, false, ◌&&◌, cond}
use mathlib.Core.List.{List, [], ◌∷◌}
use Prim.Native.Nat.{ℕ, ◌+◌, ◌*◌, ◌/◌, ◌≤◌}
use native.Mathlib.Omega.{arith}
use lib.ListN.{length, drop}
use lib.Dec.{eqb}
use Rattle.mesh_balance_spec.specs.Soup.{Tri, round}
use Rattle.mesh_balance_spec.specs.Count.{edges, uses, here}
use Rattle.mesh_balance_spec.specs.Buffer.{tris}
use Rattle.slice_law.specs.Next.{Next, drop_end}

-- ---- lengths
pub length_tris_whole : (l : List ℕ) → length (tris l) ≡ length l / 3
length_tris_whole [] = refl
length_tris_whole (a ∷ []) = refl
length_tris_whole (a ∷ b ∷ []) = refl
length_tris_whole (a ∷ b ∷ c ∷ r) = omega (arith, length_tris_whole r)

-- ---- counts
module _ (u v : ℕ) where
  here_most : (a b : ℕ) → here u v a b ≤ 1
  here_most a b = go (eqb a u && eqb b v)
    where
      go : (t : Bool) → cond t 1 0 ≤ 1
      go true = omega arith
      go false = omega arith

  pub round_most : (t : Tri ℕ) → round (here u v) t ≤ 3
  round_most t = omega (arith, here_most t.0 t.1, here_most t.1 t.2, here_most t.2 t.0)

  pub uses_most : (ts : List (Tri ℕ)) → uses u v (edges ts) ≤ 3 * length ts
  uses_most [] = omega arith
  uses_most (t ∷ ts) = omega (arith, uses_most ts, round_most t)

  -- the loop's count after a turn
  pub uses_turn : (ts : List (Tri ℕ)) (i n r : ℕ) (t : Tri ℕ) → Next ts i t → r ≡ round (here u v) t → n + uses u v (edges (drop i ts)) ≡ uses u v (edges ts)
      → n + r + uses u v (edges (drop (i + 1) ts)) ≡ uses u v (edges ts)
  uses_turn ts i n r t h e p = omega (arith, ap {B = ℕ} (λ (xs : List (Tri ℕ)). uses u v (edges xs)) h)

  pub uses_end : (ts : List (Tri ℕ)) (i n : ℕ) → length ts ≤ i → n + uses u v (edges (drop i ts)) ≡ uses u v (edges ts) → n ≡ uses u v (edges ts)
  uses_end ts i n h p = omega (arith, ap {B = ℕ} (λ (xs : List (Tri ℕ)). uses u v (edges xs)) (drop_end ts i h))
