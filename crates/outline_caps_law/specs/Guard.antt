-- The Rust's guard of n * n passes never stops the clipper, and at most n - 3 of n corners are removed singly. Assumes nothing.
use Rattle.std.specs.Prelude.{ℕ, zero, suc, ◌+◌, ◌-◌, ◌*◌, ◌/◌, ◌<◌, ◌≤◌, ◌≡◌, refl, Bool, true, false, cond, ◌&&◌, List, [], ◌++◌, length, get_or, take, eqb, ltb, Float}
use Rattle.std.proofs.Common.{sym, ◌∙◌, arith, ltb-true, ltb-false, le-ltb}
use Rattle.std.proofs.Math.Decide.{dec_lt}
use Rattle.std.specs.Float.Ieee.{lt}
use Rattle.outline.specs.Corners.{point}
use Rattle.outline_triangle.specs.Triangle.{cross, tolerance}
use Rattle.outline_ears.specs.Ears.{counting, is_ear, is_flat, first_ear, first_flat}
use Rattle.std.specs.Prelude.{Option, Some, None}
use Rattle.outline_ears.proofs.Laws.{find_below}
use Rattle.outline_remaining.specs.Without.{without}
use Rattle.outline_triangulate.specs.Triangulate.{Clipping, clipped, dropped, fanned, by_found, pass, passes, finished, start, triangulated}
use Rattle.outline_triangulate.specs.Triangulate.{triangulate_polygon}
use Rattle.outline_remaining.proofs.Taken.{length_without}
use Rattle.outline_triangulate.proofs.Steps.{passes_more, passes_done, square_enough}
use Rattle.outline_caps_law.specs.Caps.{counting_length}

-- ---- a pass removes a corner, or ends

pass_spent_flat : (v : List Float) (e : Float) (s : Clipping) (f : Option ℕ) → first_flat v e s.idx ≡ f → 3 < length s.idx
    → ((by_found f (dropped s) (fanned s)).removed + 3 ≤ s.removed + length s.idx) ×
    ((by_found f (dropped s) (fanned s)).removed + length (by_found f (dropped s) (fanned s)).idx ≤ s.removed + length s.idx) ×
    (length (by_found f (dropped s) (fanned s)).idx < length s.idx)
unfolding by_found first_flat dropped fanned
pass_spent_flat v e s (Some k) h h3 =
    let b : k < length s.idx = omega (arith, find_below (is_flat v e s.idx) (length s.idx) 0 k h) in
    let n : length (without k s.idx) ≡ length s.idx - 1 = length_without k s.idx b in
    (omega arith, omega arith, omega arith)
pass_spent_flat v e s None h h3 = (omega arith, omega arith, omega arith)

pass_spent_ear : (v : List Float) (e : Float) (s : Clipping) (f : Option ℕ) → first_ear v e s.idx ≡ f → 3 < length s.idx
    → let r = by_found f (clipped s) (by_found (first_flat v e s.idx) (dropped s) (fanned s)) in
    (r.removed + 3 ≤ s.removed + length s.idx) × (r.removed + length r.idx ≤ s.removed + length s.idx) × (length r.idx < length s.idx)
unfolding by_found first_ear clipped
pass_spent_ear v e s (Some k) h h3 =
    let b : k < length s.idx = omega (arith, find_below (is_ear v e s.idx) (length s.idx) 0 k h) in
    let n : length (without k s.idx) ≡ length s.idx - 1 = length_without k s.idx b in
    (omega arith, omega arith, omega arith)
pass_spent_ear v e s None h h3 = pass_spent_flat v e s (first_flat v e s.idx) refl h3

pub pass_spent : (v : List Float) (e : Float) (s : Clipping) → 3 < length s.idx
    → ((pass v e s).removed + 3 ≤ s.removed + length s.idx) × ((pass v e s).removed + length (pass v e s).idx ≤ s.removed + length s.idx) ×
    (length (pass v e s).idx < length s.idx)
unfolding pass
pass_spent v e s h3 = pass_spent_ear v e s (first_ear v e s.idx) refl h3

-- after enough passes three corners remain at most, and n - 3 were removed singly at most
pub record Done (n : ℕ) (r : Clipping) : Type 0 where
  pub short : length r.idx ≤ 3
  pub few : r.removed + 3 ≤ n

pub done_by : (n : ℕ) (s r : Clipping) (b : Bool) → ltb 3 (length s.idx) ≡ b → s.removed + 3 ≤ n → (3 < length s.idx → Done n r) → Done n (cond b r s)
done_by n s r true h m k = k (ltb-true _ _ h)
done_by n s r false h m k = record { short = ltb-false _ _ h; few = m }

-- ---- the guard

enough_by : (f g : ℕ) (v : List Float) (e : Float) (s : Clipping) → (3 < length s.idx → passes f v e (pass v e s) ≡ passes g v e (pass v e s))
    → Dec (3 < length s.idx)
    → passes (suc f) v e s ≡ passes (suc g) v e s
enough_by f g v e s k (yes p) = passes_more v e s f p ∙ k p ∙ sym (passes_more v e s g p)
enough_by f g v e s k (no p) = passes_done v e s (suc f) (omega (arith, p)) ∙ sym (passes_done v e s (suc g) (omega (arith, p)))

-- guards that are large enough give the same
enough : (f g : ℕ) (v : List Float) (e : Float) (s : Clipping) → length s.idx ≤ 3 + f → length s.idx ≤ 3 + g → passes f v e s ≡ passes g v e s
enough zero g v e s h k = passes_done v e s zero (omega arith) ∙ sym (passes_done v e s g (omega arith))
enough (suc f) zero v e s h k = passes_done v e s (suc f) (omega arith) ∙ sym (passes_done v e s zero (omega arith))
enough (suc f) (suc g) v e s h k =
    enough_by f g v e s (λ h3. enough f g v e (pass v e s) (omega (arith, pass_spent v e s h3)) (omega (arith, pass_spent v e s h3)))
    (dec_lt 3 (length s.idx))

-- any guard of n passes or more gives what the Rust's n * n gives: the loop ends by itself
pub guard_never_stops : (v : List Float) (e : Float) (n g : ℕ) → 1 ≤ n → n ≤ g → passes g v e (start n) ≡ passes (n * n) v e (start n)
unfolding start
guard_never_stops v e n g h k =
    let l : length (counting 0 n) ≡ n = counting_length 0 n in
    enough g (n * n) v e (start n) (omega arith) (omega (arith, square_enough n h))

-- ---- the count of corners removed singly

pub finished_removed : (v : List Float) (e : Float) (s : Clipping) → (finished v e s).removed ≡ s.removed
unfolding finished
finished_removed v e s =
    go (eqb (length s.idx) 3 && lt e (cross (point v (get_or s.idx 0 0)) (point v (get_or s.idx 1 0)) (point v (get_or s.idx 2 0))))
  where
    go : (b : Bool) → (cond b (record { idx = []; triangles = s.triangles ++ take 3 s.idx; removed = s.removed }) s).removed ≡ s.removed
    go true = refl
    go false = refl
