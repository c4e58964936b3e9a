-- The cap theorem: where n corners, 3 or more, give n - 2 triangles, the triangles' directed edges are the cycle 0 → 1 → .. → n - 1 → 0, but for pairs of an
-- edge and its reverse. It holds of every corner list, so of those that `prepared` gives. Assumes nothing.
use Rattle.std.specs.Prelude.{ℕ, zero, suc, ◌+◌, ◌-◌, ◌*◌, ◌/◌, ◌<◌, ◌≤◌, ◌≡◌, refl, Bool, List, [], ◌∷◌, length, Float}
use Rattle.std.proofs.Common.{sym, ap, ◌∙◌, add-zero, zero-add, add_assoc, arith, lt-ltb, le-ltb}
use Rattle.std.proofs.Math.Decide.{dec_lt}
use Rattle.mesh_balance_spec.specs.Soup.{Weight, rev, sum}
use Rattle.mesh_balance_spec.specs.Grid.{path, Bounds}
use Rattle.mesh_balance_spec.specs.Prism as Prism
use Rattle.mesh_balance_spec.specs.Buffer.{tris}
use Rattle.outline.specs.Ccw.{prepared}
use Rattle.outline_triangle.specs.Triangle.{tolerance}
use Rattle.outline_ears.specs.Ears.{counting}
use Rattle.outline_triangulate.specs.Triangulate.{Clipping, start, passes, finished, triangulated, triangulate_polygon}
use Rattle.outline_caps_law.specs.Edges.{edges, chain, cycle, none, few_cycle}
use Rattle.outline_caps_law.specs.Kept.{Kept, kept_on, total, coming}

pub counting_length : (k n : ℕ) → length (counting k n) ≡ n
unfolding counting
counting_length k zero = refl
counting_length k (suc n) = ap suc (counting_length (suc k) n)

-- ---- from the start to the end

-- the state after the last pass and the last triangle
abbrev pub last : List Float → ℕ → Clipping
last v n = finished v (tolerance v) (passes (n * n) v (tolerance v) (start n))

pub triangulated_last : (v : List Float) (n : ℕ) → 3 ≤ n → triangulated v n ≡ last v n
unfolding triangulated
triangulated_last v n h = rw (le-ltb n 3 h)

pub most : (n : ℕ) (s : Clipping) → Kept (start n) s → length s.triangles ≤ 3 * (n - 2)
unfolding coming start
most n s k = omega (arith, k.fewer, counting_length 0 n)

pub around_start : (n : ℕ) (s : Clipping) → 3 ≤ n → Kept (start n) s → length s.triangles ≡ 3 * (n - 2)
    → (w : Weight ℕ) → edges w s.triangles + cycle (rev w) (counting 0 n) ≡ edges (rev w) s.triangles + cycle w (counting 0 n)
unfolding coming total start edges
around_start n s h k m w =
    let l : length (counting 0 n) ≡ n = counting_length 0 n in
    let few : length s.idx ≤ 2 = omega (arith, k.fewer) in
    omega (arith, k.even none (omega (arith, k.fewer)) w, few_cycle w s.idx few)

-- ---- flat lists of numbers, and the sums of the crate mesh_balance_spec

pub edges_sum : (w : Weight ℕ) (l : List ℕ) → edges w l ≡ sum w (tris l)
unfolding edges
edges_sum w [] = refl
edges_sum w (a ∷ []) = refl
edges_sum w (a ∷ b ∷ []) = refl
edges_sum w (a ∷ b ∷ c ∷ r) = omega (arith, edges_sum w r)

-- 0 → 1 → .. → k, and on from there
walk : (w : Weight ℕ) (z k n : ℕ) → path w (λ i. i) k + chain w z k (counting (suc k) n) ≡ path w (λ i. i) (k + n) + w (k + n) z
unfolding chain counting
walk w z k zero = ap (λ (x : ℕ). path w (λ i. i) x + w x z) (sym (add-zero k))
walk w z k (suc n) =
    let e : suc k + n ≡ k + suc n = omega arith in
    sym (add_assoc (path w (λ i. i) k) (w k (suc k)) (chain w z (suc k) (counting (suc (suc k)) n)))
    ∙ walk w z (suc k) n
    ∙ ap (λ (x : ℕ). path w (λ i. i) x + w x z) e

pub around : (w : Weight ℕ) (m : ℕ) → cycle w (counting 0 (suc m)) ≡ Prism.cycle m w
unfolding cycle counting
around w m =
    let e : 0 + m ≡ m = omega arith in
    sym (zero-add (chain w 0 0 (counting 1 m))) ∙ walk w 0 0 m ∙ ap (λ (x : ℕ). path w (λ i. i) x + w x 0) e
