-- The Rust's guard of n * n passes never stops the clipper, and at most n - 3 of n corners are removed singly. Assumes nothing.
use Rattle.std.specs.Prelude.{ℕ, zero, suc, ◌+◌, ◌-◌, ◌*◌, ◌/◌, ◌<◌, ◌≤◌, ◌≡◌, refl, ◌&&◌, List, ◌++◌, length, ltb, Float}
use Rattle.std.proofs.Common.{◌∙◌, arith, le-ltb}
use Rattle.outline_triangle.specs.Triangle.{tolerance}
use Rattle.outline_ears.specs.Ears.{counting}
use Rattle.outline_triangulate.specs.Triangulate.{Clipping, pass, passes, start, triangulated}
use Rattle.outline_triangulate.specs.Triangulate.{triangulate_polygon}
use Rattle.outline_triangulate.proofs.Steps.{square_enough}
use Rattle.outline_caps_law.specs.Caps.{counting_length}
use Rattle.outline_caps_law.specs.Guard.{Done, done_by, finished_removed, pass_spent}

done_after : (n f : ℕ) (v : List Float) (e : Float) (s : Clipping) → length s.idx ≤ 3 + f → s.removed + 3 ≤ n → s.removed + length s.idx ≤ n
    → Done n (passes f v e s)
unfolding passes
done_after n zero v e s h m g = record { short = omega arith; few = m }
done_after n (suc f) v e s h m g =
    done_by n s (passes f v e (pass v e s)) (ltb 3 (length s.idx)) refl m
    (λ h3. let t = pass_spent v e s h3 in done_after n f v e (pass v e s) (omega arith) (omega arith) (omega arith))

-- after them three corners remain at most, and n - 3 at most were removed singly
passes_end : (v : List Float) (e : Float) (n : ℕ) → 3 ≤ n → Done n (passes (n * n) v e (start n))
unfolding start
passes_end v e n h =
    let l : length (counting 0 n) ≡ n = counting_length 0 n in
    done_after n (n * n) v e (start n) (omega (arith, square_enough n (omega arith))) (omega arith) (omega arith)

pub three_left : (v : List Float) (e : Float) (n : ℕ) → 3 ≤ n → length (passes (n * n) v e (start n)).idx ≤ 3
three_left v e n h = (passes_end v e n h).short

-- at most n - 3 of n corners, for n of 3 or more
pub removed_most : (v : List Float) → 3 ≤ length v / 2 → (triangulate_polygon v).removed + 3 ≤ length v / 2
unfolding triangulate_polygon triangulated
removed_most v h =
    let n = length v / 2 in
    rw (le-ltb n 3 h, finished_removed v (tolerance v) (passes (n * n) v (tolerance v) (start n))) (passes_end v (tolerance v) n h).few
