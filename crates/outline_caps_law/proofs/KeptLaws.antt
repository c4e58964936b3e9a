-- From a state of the clipper to a later one: the triangles given and those that can still come are no more than before; and where they are as many, each
-- directed edge outnumbers its reverse by as much as before, over the triangles given and the cycle of the corners that remain. Assumes nothing.
use Rattle.std.proofs.Common.{[]}
use Rattle.std.specs.Prelude.{ℕ, zero, suc, ◌+◌, ◌-◌, ◌*◌, ◌<◌, ◌≤◌, ◌≡◌, refl, Bool, true, false, cond, ◌&&◌, List, ◌∷◌, ◌++◌, length, get_or, take, eqb, ltb, Float}
use Rattle.std.proofs.Common.{arith, length-append, ltb-true, eqb-true}
use Rattle.std.specs.Float.Ieee.{lt}
use Rattle.mesh_balance_spec.specs.Soup.{Weight, rev}
use Rattle.outline.specs.Corners.{point}
use Rattle.outline_triangle.specs.Triangle.{cross}
use Rattle.outline_ears.specs.Ears.{ip, inx, is_ear, is_flat, first_ear, first_flat}
use Rattle.std.specs.Prelude.{Option, Some, None}
use Rattle.outline_ears.proofs.Laws.{find_below}
use Rattle.outline_remaining.specs.Without.{without}
use Rattle.outline_triangulate.specs.Triangulate.{Clipping, fan, clipped, dropped, fanned, by_found, pass, passes, finished}
use Rattle.outline_remaining.proofs.Taken.{length_without}
use Rattle.outline_caps_law.specs.Edges.{edges, chain, cycle, Thirds, none, more, cycle_cut, thirds_append, edges_append, fan_thirds, fan_length}
use Rattle.outline_caps_law.proofs.EdgesLaws.{fan_edges}
use Rattle.outline_caps_law.specs.Kept.{Kept, coming, dropped_kept, kept_on, kept_same, total}

clipped_even : (s : Clipping) (k : ℕ) → k < length s.idx → 3 < length s.idx → Thirds s.triangles → (w : Weight ℕ)
    → total w (clipped s k) + total (rev w) s ≡ total (rev w) (clipped s k) + total w s
unfolding clipped total edges
clipped_even s k h h3 p w =
    let t = ip s.idx k ∷ get_or s.idx k 0 ∷ inx s.idx k ∷ [] in
    omega (arith, edges_append w t p, edges_append (rev w) t p, cycle_cut w s.idx k h (omega arith), cycle_cut (rev w) s.idx k h (omega arith))

clipped_kept : (s : Clipping) (k : ℕ) → k < length s.idx → 3 < length s.idx → Kept s (clipped s k)
unfolding clipped coming total
clipped_kept s k h h3 =
    let t = ip s.idx k ∷ get_or s.idx k 0 ∷ inx s.idx k ∷ [] in
    let n : length (without k s.idx) ≡ length s.idx - 1 = length_without k s.idx h in
    let m : length (s.triangles ++ t) ≡ length s.triangles + 3 = length-append s.triangles t in
    record {
      thirds = λ p. thirds_append p (more none);
      fewer = omega arith;
      even = λ p le w. clipped_even s k h h3 p w;
    }

fanned_kept : (s : Clipping) → 3 < length s.idx → Kept s (fanned s)
unfolding fanned coming total cycle
fanned_kept s h3 =
    let n : length (fan s.idx) ≡ 3 * (length s.idx - 2) = fan_length s.idx in
    let m : length (s.triangles ++ fan s.idx) ≡ length s.triangles + length (fan s.idx) = length-append s.triangles (fan s.idx) in
    record {
      thirds = λ p. thirds_append p (fan_thirds s.idx);
      fewer = omega arith;
      even = λ p le w. omega (arith, edges_append w (fan s.idx) p, edges_append (rev w) (fan s.idx) p, fan_edges w s.idx (omega arith));
    }

-- a pass, by what the searches find
pass_flat_kept : (v : List Float) (e : Float) (s : Clipping) (f : Option ℕ) → first_flat v e s.idx ≡ f → 3 < length s.idx
    → Kept s (by_found f (dropped s) (fanned s))
unfolding by_found first_flat
pass_flat_kept v e s (Some k) h h3 = dropped_kept s k (omega (arith, find_below (is_flat v e s.idx) (length s.idx) 0 k h)) h3
pass_flat_kept v e s None h h3 = fanned_kept s h3

pass_ear_kept : (v : List Float) (e : Float) (s : Clipping) (f : Option ℕ) → first_ear v e s.idx ≡ f → 3 < length s.idx
    → Kept s (by_found f (clipped s) (by_found (first_flat v e s.idx) (dropped s) (fanned s)))
unfolding by_found first_ear
pass_ear_kept v e s (Some k) h h3 = clipped_kept s k (omega (arith, find_below (is_ear v e s.idx) (length s.idx) 0 k h)) h3
pass_ear_kept v e s None h h3 = pass_flat_kept v e s (first_flat v e s.idx) refl h3

pass_kept : (v : List Float) (e : Float) (s : Clipping) → 3 < length s.idx → Kept s (pass v e s)
unfolding pass
pass_kept v e s h3 = pass_ear_kept v e s (first_ear v e s.idx) refl h3

passes_by : (v : List Float) (e : Float) (s r : Clipping) (b : Bool) → ltb 3 (length s.idx) ≡ b → (3 < length s.idx → Kept s r) → Kept s (cond b r s)
passes_by v e s r true h k = k (ltb-true _ _ h)
passes_by v e s r false h k = kept_same s

pub passes_kept : (f : ℕ) (v : List Float) (e : Float) (s : Clipping) → Kept s (passes f v e s)
unfolding passes
passes_kept zero v e s = kept_same s
passes_kept (suc f) v e s =
    passes_by v e s (passes f v e (pass v e s)) (ltb 3 (length s.idx)) refl
    (λ h. kept_on s (pass v e s) (passes f v e (pass v e s)) (pass_kept v e s h) (passes_kept f v e (pass v e s)))

three_kept : (t l : List ℕ) (r : ℕ) → length l ≡ 3
    → Kept (record { idx = l; triangles = t; removed = r }) (record { idx = []; triangles = t ++ take 3 l; removed = r })
unfolding coming total cycle chain edges
three_kept t [] r h = absurd (omega (arith, h))
three_kept t (a ∷ []) r h = absurd (omega (arith, h))
three_kept t (a ∷ b ∷ []) r h = absurd (omega (arith, h))
three_kept t (a ∷ b ∷ c ∷ d ∷ l) r h = absurd (omega (arith, h))
three_kept t (a ∷ b ∷ c ∷ []) r h =
    let m : length (t ++ (a ∷ b ∷ c ∷ [])) ≡ length t + 3 = length-append t (a ∷ b ∷ c ∷ []) in
    record {
      thirds = λ p. thirds_append p (more none);
      fewer = omega arith;
      even = λ p le w. omega (arith, edges_append w (a ∷ b ∷ c ∷ []) p, edges_append (rev w) (a ∷ b ∷ c ∷ []) p);
    }

finished_by : (s : Clipping) (b c : Bool) → eqb (length s.idx) 3 ≡ b
    → Kept s (cond (b && c) (record { idx = []; triangles = s.triangles ++ take 3 s.idx; removed = s.removed }) s)
finished_by s true true h = three_kept s.triangles s.idx s.removed (eqb-true _ _ h)
finished_by s true false h = kept_same s
finished_by s false c h = kept_same s

pub finished_kept : (v : List Float) (e : Float) (s : Clipping) → Kept s (finished v e s)
unfolding finished
finished_kept v e s = finished_by s (eqb (length s.idx) 3)
    (lt e (cross (point v (get_or s.idx 0 0)) (point v (get_or s.idx 1 0)) (point v (get_or s.idx 2 0)))) refl
