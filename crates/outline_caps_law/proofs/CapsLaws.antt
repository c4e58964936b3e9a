-- The cap theorem: where n corners, 3 or more, give n - 2 triangles, the triangles' directed edges are the cycle 0 → 1 → .. → n - 1 → 0, but for pairs of an
-- edge and its reverse. It holds of every corner list, so of those that `prepared` gives. Assumes nothing.
use Rattle.std.specs.Prelude.{ℕ, suc, ◌+◌, ◌-◌, ◌*◌, ◌/◌, ◌<◌, ◌≤◌, ◌≡◌, List, ◌∷◌, length, Float}
use Rattle.std.proofs.Common.{sym, ap, ◌∙◌, arith, lt-ltb, le-ltb}
use Rattle.std.proofs.Math.Decide.{dec_lt}
use Rattle.mesh_balance_spec.specs.Soup.{rev}
use Rattle.mesh_balance_spec.specs.Grid.{Bounds}
use Rattle.mesh_balance_spec.specs.Prism as Prism
use Rattle.mesh_balance_spec.specs.Buffer.{tris}
use Rattle.outline_triangle.specs.Triangle.{tolerance}
use Rattle.outline_ears.specs.Ears.{counting}
use Rattle.outline_triangulate.specs.Triangulate.{Clipping, start, passes, triangulated, triangulate_polygon}
use Rattle.outline_caps_law.specs.Edges.{edges, cycle}
use Rattle.outline_caps_law.specs.Kept.{Kept, kept_on}
use Rattle.outline_caps_law.proofs.KeptLaws.{passes_kept, finished_kept}
use Rattle.outline_caps_law.specs.Caps.{around, around_start, edges_sum, last, most, triangulated_last}

kept_last : (v : List Float) (n : ℕ) → Kept (start n) (last v n)
kept_last v n =
    kept_on (start n) (passes (n * n) v (tolerance v) (start n)) (last v n)
    (passes_kept (n * n) v (tolerance v) (start n)) (finished_kept v (tolerance v) (passes (n * n) v (tolerance v) (start n)))

bounds_last : (n m : ℕ) (s : Clipping) → n ≡ suc m → 3 ≤ n → Kept (start n) s → length s.triangles ≡ 3 * (n - 2)
    → Bounds (tris s.triangles) (Prism.cycle m)
bounds_last n m s e h k q w =
    let t : edges w s.triangles + cycle (rev w) (counting 0 (suc m)) ≡ edges (rev w) s.triangles + cycle w (counting 0 (suc m)) =
    rw e at (around_start n s h k q w) in
    omega (arith, t, edges_sum w s.triangles, edges_sum (rev w) s.triangles, around w m, around (rev w) m)

-- ---- the theorems

most_by : (v : List Float) (n : ℕ) → Dec (n < 3) → length (triangulated v n).triangles ≤ 3 * (n - 2)
unfolding triangulated
most_by v n (yes p) = rw (lt-ltb n 3 p) (omega arith)
most_by v n (no p) = rw (le-ltb n 3 (omega (arith, p))) (most n (last v n) (kept_last v n))

-- n corners give n - 2 triangles at most. Fewer than three give none: n - 2 is 0 for n of 2, and for n of 0 and 1 too, since ℕ has no numbers below 0
pub triangles_most : (v : List Float) → length (triangulate_polygon v).triangles ≤ 3 * (length v / 2 - 2)
unfolding triangulate_polygon
triangles_most v = most_by v (length v / 2) (dec_lt (length v / 2) 3)

-- the cap theorem; the corners are 0 .. m, so n is m + 1 and n - 2 is m - 1
pub caps : (v : List Float) (m : ℕ) → length v / 2 ≡ suc m → 2 ≤ m → length (triangulate_polygon v).triangles ≡ 3 * (m - 1)
    → Bounds (tris (triangulate_polygon v).triangles) (Prism.cycle m)
unfolding triangulate_polygon
caps v m e h q =
    let n = length v / 2 in
    let t : triangulated v n ≡ last v n = triangulated_last v n (omega arith) in
    rw t (bounds_last n m (last v n) e (omega arith) (kept_last v n) (ap (λ (s : Clipping). length s.triangles) (sym t) ∙ q ∙ omega arith))
