-- `root_whole::near_root` meets its contract. Assumes nothing.
use Rattle.std.proofs.Common.{◌≡◌, ℕ, ◌≤◌, ◌<◌, ◌+◌, ◌*◌, ◌/◌, ◌%◌, ◌^◌, arith}
use Rattle.root_whole.proofs.Bounds.{below_word}
use Rattle.root_whole.proofs.Neighbours.{Split, exact, enough_digits, split, small, small_square, kept, raised, rounded}
use Rattle.root_whole.proofs.near_root.Goals as goal

-- where the test is passed
passed : (m h a : ℕ) → 2 ^ 52 ≤ m → (a + h * h) % 2 ^ 64 ≡ m * 2 ^ 8 → a ≤ 16 * h → h + 16 < 2 ^ 32 → Split m h a (a * 2 ^ 21 / h) (a * 2 ^ 21 % h)
passed m h a b e t g = split m h a b (exact m h a e t g) t

pub guess-h-requires : goal.guess-h-requires
guess-h-requires c = (omega arith, omega arith)

pub overflow_mul-m : goal.overflow_mul-m
overflow_mul-m c = omega arith

pub overflow_mul-h : goal.overflow_mul-h
overflow_mul-h c = record { fits = below_word c.guess-h.result c.guess-h.result (omega arith) (omega arith) }

pub overflow_mul-h-2 : goal.overflow_mul-h-2
overflow_mul-h-2 c = omega arith

pub root_by_digits-requires : goal.root_by_digits-requires
root_by_digits-requires c = (omega arith, omega arith)

pub returns-then-a-h : goal.returns-then-a-h
returns-then-a-h c = c.root_by_digits.ensures

pub overflow_mul-n : goal.overflow_mul-n
overflow_mul-n c = omega arith

pub nonzero_div-l : goal.nonzero_div-l
nonzero_div-l c =
    let m = c.args.m in
    let h = c.guess-h.result in
    omega (arith, enough_digits m h c.wrapping_sub_u64-a.result (omega arith) (exact c.args.m c.guess-h.result c.wrapping_sub_u64-a.result c.wrapping_sub_u64-a.ensures.value (omega arith) (omega arith)) (omega arith))

pub nonzero_rem-d : goal.nonzero_rem-d
nonzero_rem-d c =
    let m = c.args.m in
    let h = c.guess-h.result in
    omega (arith, enough_digits m h c.wrapping_sub_u64-a.result (omega arith) (exact c.args.m c.guess-h.result c.wrapping_sub_u64-a.result c.wrapping_sub_u64-a.ensures.value (omega arith) (omega arith)) (omega arith))

pub overflow_mul-q : goal.overflow_mul-q
overflow_mul-q c = omega arith

pub overflow_add-q : goal.overflow_add-q
overflow_add-q c = omega (arith, small (passed c.args.m c.guess-h.result c.wrapping_sub_u64-a.result (omega arith) c.wrapping_sub_u64-a.ensures.value (omega arith) (omega arith)))

pub overflow_mul-d : goal.overflow_mul-d
overflow_mul-d c = omega (arith, (passed c.args.m c.guess-h.result c.wrapping_sub_u64-a.result (omega arith) c.wrapping_sub_u64-a.ensures.value (omega arith) (omega arith)).rest)

pub overflow_mul-l : goal.overflow_mul-l
overflow_mul-l c =
    let l = c.wrapping_sub_u64-a.result * 2 ^ 21 / c.guess-h.result in
    record { fits = below_word l l (omega (arith, small (passed c.args.m c.guess-h.result c.wrapping_sub_u64-a.result (omega arith) c.wrapping_sub_u64-a.ensures.value (omega arith) (omega arith)))) (omega (arith, small (passed c.args.m c.guess-h.result c.wrapping_sub_u64-a.result (omega arith) c.wrapping_sub_u64-a.ensures.value (omega arith) (omega arith)))) }

pub overflow_add-l : goal.overflow_add-l
overflow_add-l c = omega (arith, small (passed c.args.m c.guess-h.result c.wrapping_sub_u64-a.result (omega arith) c.wrapping_sub_u64-a.ensures.value (omega arith) (omega arith)), small_square (passed c.args.m c.guess-h.result c.wrapping_sub_u64-a.result (omega arith) c.wrapping_sub_u64-a.ensures.value (omega arith) (omega arith)))

pub overflow_add-result : goal.overflow_add-result
overflow_add-result c = omega (arith, small (passed c.args.m c.guess-h.result c.wrapping_sub_u64-a.result (omega arith) c.wrapping_sub_u64-a.ensures.value (omega arith) (omega arith)))

pub returns-then-d-l : goal.returns-then-d-l
returns-then-d-l c =
    rounded c.args.m _ (omega arith) (omega arith) (raised (passed c.args.m c.guess-h.result c.wrapping_sub_u64-a.result (omega arith) c.wrapping_sub_u64-a.ensures.value (omega arith) (omega arith)) (omega arith))

pub returns-else-d-l : goal.returns-else-d-l
returns-else-d-l c =
    rounded c.args.m _ (omega arith) (omega arith) (kept (passed c.args.m c.guess-h.result c.wrapping_sub_u64-a.result (omega arith) c.wrapping_sub_u64-a.ensures.value (omega arith) (omega arith)) (omega arith))
