-- `ieee_whole::ceil_to_usize` meets its contract: a law for each way through its tests. Assumes nothing.
use Rattle.std.proofs.Common.{◌≡◌, ℕ, ◌+◌, true, false, T, pos, sym, ap, ◌∙◌, subst, arith}
use lib.Ieee as Ieee
use lib.Ieee.{binary64, of_bits, fits}
use Rattle.ieee.specs.Same.{true_T}
use Rattle.ieee_whole.proofs.Ceiling.{below, far_asks, far, past, not_above}
use Rattle.ieee_whole.proofs.ceil_to_usize.Goals as goal

pub truncating_f64_to_u64-t-requires : goal.truncating_f64_to_u64-t-requires
unfolding of_bits
truncating_f64_to_u64-t-requires c = record { lower_bound = (below c.args.y c.if-y.true c.if-y-2.true).asks.0; upper_bound = (below c.args.y c.if-y.true c.if-y-2.true).asks.1 }

pub int_to_float-t : goal.int_to_float-t
unfolding of_bits
int_to_float-t c =
    subst (λ (n : ℕ). T (Ieee.in_float binary64 (pos n))) (sym c.truncating_f64_to_u64-t.ensures) (below c.args.y c.if-y.true c.if-y-2.true).in_float_lem

pub overflow_add-result : goal.overflow_add-result
unfolding of_bits
overflow_add-result c =
    let e = c.truncating_f64_to_u64-t.ensures in
    omega (arith, (below c.args.y c.if-y.true c.if-y-2.true).few)

pub truncating_f64_to_u64-requires : goal.truncating_f64_to_u64-requires
unfolding of_bits
truncating_f64_to_u64-requires c =
    let k = far_asks c.args.y c.if-y.true c.if-y-3.true in
    record { lower_bound = k.0; upper_bound = k.1 }

pub returns-then-t-y : goal.returns-then-t-y
unfolding of_bits
returns-then-t-y c =
    let e = c.truncating_f64_to_u64-t.ensures in
    let y = c.args.y in
    ap (λ (n : ℕ). n + 1) e ∙ (below c.args.y c.if-y.true c.if-y-2.true).rest (subst (λ (n : ℕ). Ieee.lt (Ieee.of_int binary64 (pos n)) y ≡ true) e c.if-t-y.true)

pub returns-else-t-y : goal.returns-else-t-y
unfolding of_bits
returns-else-t-y c =
    let e = c.truncating_f64_to_u64-t.ensures in
    let y = c.args.y in
    e ∙ (below c.args.y c.if-y.true c.if-y-2.true).none (subst (λ (n : ℕ). Ieee.lt (Ieee.of_int binary64 (pos n)) y ≡ false) e c.if-t-y.false)

pub returns-then-y-3 : goal.returns-then-y-3
unfolding of_bits
returns-then-y-3 c =
    let start = c in
    c.truncating_f64_to_u64.ensures
    ∙ far start.args.y (true_T (fits binary64 start.args.y) start.well_formed.0.1) c.if-y.true c.if-y-2.false

pub returns-else-y-3 : goal.returns-else-y-3
unfolding of_bits
returns-else-y-3 c = past c.args.y c.if-y.true c.if-y-3.false

pub returns-else-y : goal.returns-else-y
unfolding of_bits
returns-else-y c = not_above c.args.y c.if-y.false
