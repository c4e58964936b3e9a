-- Every number in the triangles of `triangulate_polygon` is the number of a corner. Assumes nothing.
use mathlib.Core.Path.{◌≡◌, refl, sym, ap, ◌∙◌}
use mathlib.Core.Bool.{Bool, true, false, cond, ◌&&◌}
use mathlib.Core.List.{List, [], ◌∷◌, ◌++◌}
use Prim.Native.Nat.{ℕ, zero, suc, ◌+◌, ◌-◌, ◌*◌, ◌/◌, ◌%◌, ◌≤◌, ◌<◌}
use native.Mathlib.Omega.{arith}
use lib.Dec.{ltb, eqb}
use lib.Ieee.{Float, lt}
use lib.ListN.{length, get_or, take, drop}
use borrow.Author.Tests.{ltb-false}
use Rattle.mesh_balance_spec.specs.Soup.{Tri}
use Rattle.mesh_balance_spec.specs.Buffer.{tris}
use Rattle.outline.specs.Corners.{point}
use Rattle.std.specs.Prelude.{Option, None, Some}
use Rattle.outline_triangle.specs.Triangle.{cross, tolerance}
use Rattle.outline_ears.specs.Ears.{ip, inx, counting, first_ear, first_flat}
use Rattle.outline_remaining.specs.Without.{without}
use Rattle.outline_triangulate.specs.Triangulate.{Clipping, clipped, dropped, fans, fan, fanned, by_found, pass, passes, finished, start, triangulated}
use Rattle.outline_triangulate.specs.Triangulate.{triangulate_polygon}
use Rattle.solid_spec.specs.Polygons.{cap_triangles}

-- every number is below n
abbrev pub Below : ℕ → List ℕ → Type 0
Below n [] = Unit
Below n (x ∷ l) = (x < n) × Below n l

-- every number of every triangle is below n
abbrev pub BelowAll : ℕ → List (Tri ℕ) → Type 0
BelowAll n [] = Unit
BelowAll n (t ∷ ts) = (t.0 < n) × (t.1 < n) × (t.2 < n) × BelowAll n ts

module _ (n : ℕ) (some : 0 < n) where
  below_append : (xs ys : List ℕ) → Below n xs → Below n ys → Below n (xs ++ ys)
  below_append [] ys p q = q
  below_append (x ∷ xs) ys p q = (p.0, below_append xs ys p.1 q)

  below_take : (k : ℕ) (l : List ℕ) → Below n l → Below n (take k l)
  below_take zero l p = tt
  below_take (suc k) [] p = tt
  below_take (suc k) (x ∷ l) p = (p.0, below_take k l p.1)

  below_drop : (k : ℕ) (l : List ℕ) → Below n l → Below n (drop k l)
  below_drop zero l p = p
  below_drop (suc k) [] p = tt
  below_drop (suc k) (x ∷ l) p = below_drop k l p.1

  below_at : (l : List ℕ) (k : ℕ) → Below n l → get_or l k 0 < n
  below_at [] k p = some
  below_at (x ∷ l) zero p = p.0
  below_at (x ∷ l) (suc k) p = below_at l k p.1

  fans_below : (a : ℕ) (l : List ℕ) → a < n → Below n l → Below n (fans a l)
  unfolding fans
  fans_below a [] h p = tt
  fans_below a (b ∷ []) h p = tt
  fans_below a (b ∷ c ∷ l) h p = (h, (p.0, (p.1.0, fans_below a (c ∷ l) h p.1)))

  fan_below : (l : List ℕ) → Below n l → Below n (fan l)
  unfolding fan
  fan_below [] p = tt
  fan_below (a ∷ l) p = fans_below a l p.0 p.1

  counting_below : (k m : ℕ) → k + m ≤ n → Below n (counting k m)
  unfolding counting
  counting_below k zero h = tt
  counting_below k (suc m) h = (omega arith, counting_below (suc k) m (omega arith))

  record Low (s : Clipping) : Type 0 where
    idx : Below n s.idx
    triangles : Below n s.triangles

  clipped_low : (s : Clipping) (k : ℕ) → Low s → Low (clipped s k)
  unfolding clipped without ip inx
  clipped_low s k p =
      record {
        idx = below_append (take k s.idx) (drop (suc k) s.idx) (below_take k s.idx p.idx) (below_drop (suc k) s.idx p.idx);
        triangles =
            below_append s.triangles (ip s.idx k ∷ get_or s.idx k 0 ∷ inx s.idx k ∷ []) p.triangles
            (below_at s.idx ((k + length s.idx - 1) % length s.idx) p.idx, (below_at s.idx k p.idx, (below_at s.idx ((k + 1) % length s.idx) p.idx, tt)));
      }

  dropped_low : (s : Clipping) (k : ℕ) → Low s → Low (dropped s k)
  unfolding dropped without
  dropped_low s k p =
      record {
        idx = below_append (take k s.idx) (drop (suc k) s.idx) (below_take k s.idx p.idx) (below_drop (suc k) s.idx p.idx);
        triangles = p.triangles;
      }

  fanned_low : (s : Clipping) → Low s → Low (fanned s)
  unfolding fanned
  fanned_low s p = record { idx = tt; triangles = below_append s.triangles (fan s.idx) p.triangles (fan_below s.idx p.idx) }

  found_low : (f : Option ℕ) (g : ℕ → Clipping) (s : Clipping) → ((k : ℕ) → Low (g k)) → Low s → Low (by_found f g s)
  unfolding by_found
  found_low (Some k) g s p q = p k
  found_low None g s p q = q

  pick_low : (b : Bool) (s t : Clipping) → Low s → Low t → Low (cond b s t)
  pick_low true s t p q = p
  pick_low false s t p q = q

  pass_low : (v : List Float) (e : Float) (s : Clipping) → Low s → Low (pass v e s)
  unfolding pass
  pass_low v e s p =
      found_low (first_ear v e s.idx) (clipped s) (by_found (first_flat v e s.idx) (dropped s) (fanned s)) (λ k. clipped_low s k p)
      (found_low (first_flat v e s.idx) (dropped s) (fanned s) (λ k. dropped_low s k p) (fanned_low s p))

  passes_low : (g : ℕ) (v : List Float) (e : Float) (s : Clipping) → Low s → Low (passes g v e s)
  unfolding passes
  passes_low zero v e s p = p
  passes_low (suc g) v e s p = pick_low (ltb 3 (length s.idx)) (passes g v e (pass v e s)) s (passes_low g v e (pass v e s) (pass_low v e s p)) p

  finished_low : (v : List Float) (e : Float) (s : Clipping) → Low s → Low (finished v e s)
  unfolding finished
  finished_low v e s p =
      pick_low (eqb (length s.idx) 3 && lt e (cross (point v (get_or s.idx 0 0)) (point v (get_or s.idx 1 0)) (point v (get_or s.idx 2 0))))
      (record { idx = []; triangles = s.triangles ++ take 3 s.idx; removed = s.removed }) s
      (record { idx = tt; triangles = below_append s.triangles (take 3 s.idx) p.triangles (below_take 3 s.idx p.idx) }) p

  start_low : Low (start n)
  unfolding start
  start_low = record { idx = counting_below 0 n (omega arith); triangles = tt }

  triangulated_low : (v : List Float) → Low (triangulated v n)
  unfolding triangulated
  triangulated_low v =
      pick_low (ltb n 3) (record { idx = []; triangles = []; removed = 0 }) (finished v (tolerance v) (passes (n * n) v (tolerance v) (start n)))
      (record { idx = tt; triangles = tt }) (finished_low v (tolerance v) (passes (n * n) v (tolerance v) (start n)) (passes_low (n * n) v (tolerance v) (start n) start_low))

  tris_below : (l : List ℕ) → Below n l → BelowAll n (tris l)
  tris_below [] p = tt
  tris_below (a ∷ []) p = tt
  tris_below (a ∷ b ∷ []) p = tt
  tris_below (a ∷ b ∷ c ∷ l) p = (p.0, p.1.0, p.1.1.0, tris_below l p.1.1.1)

-- the caps name corners
pub caps_below : (v : List Float) → 3 ≤ length v / 2 → BelowAll (length v / 2) (cap_triangles v)
unfolding cap_triangles triangulate_polygon
caps_below v h = tris_below (length v / 2) (omega arith) (triangulate_polygon v).triangles (triangulated_low (length v / 2) (omega arith) v).triangles
