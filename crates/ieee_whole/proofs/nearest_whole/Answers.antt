-- `ieee_whole::nearest_whole` meets its contract: a law for each way through its tests. Assumes nothing.
use Rattle.std.proofs.Common.{◌≡◌, ◌%◌, true, T, sym, ap, ◌∙◌, subst}
use lib.Ieee.{Float, binary64, fits, of_bits, neg}
use Rattle.ieee_whole.proofs.Near.{whole, near_neg_asks, near_neg, near_pos_asks, near_pos}
use Rattle.ieee_whole.proofs.Far.{mid_neg_cut, mid_neg, huge_neg, mid_pos_cut, mid_pos, huge_pos}
use Rattle.ieee_whole.proofs.nearest_whole.Goals as goal

held : (p : Float) → fits binary64 p ≡ true → T (fits binary64 p)
held p f = subst T (sym f) tt

pub half_up-n-requires : goal.half_up-n-requires
unfolding of_bits neg
half_up-n-requires c =
    let k = near_neg_asks c.args.p c.if-p.true c.if-p-2.true in
    record { not_negative = k.0; below_all_whole = k.1 }

pub truncating_f64_to_u64-requires : goal.truncating_f64_to_u64-requires
unfolding of_bits neg
truncating_f64_to_u64-requires c =
    let k = mid_neg_cut c.args.p c.if-p.true c.if-p-3.true in
    record { lower_bound = k.0; upper_bound = k.1 }

pub half_up-n-requires-then-p-4 : goal.half_up-n-requires-then-p-4
unfolding of_bits
half_up-n-requires-then-p-4 c =
    let k = near_pos_asks c.args.p c.if-p.false c.if-p-4.true in
    record { not_negative = k.0; below_all_whole = k.1 }

pub truncating_f64_to_u64-requires-then-p-5 : goal.truncating_f64_to_u64-requires-then-p-5
unfolding of_bits
truncating_f64_to_u64-requires-then-p-5 c =
    let k = mid_pos_cut c.args.p c.if-p-4.false c.if-p-5.true in
    record { lower_bound = k.0; upper_bound = k.1 }

pub returns-then-p-2 : goal.returns-then-p-2
unfolding of_bits neg
returns-then-p-2 c =
    let called = c in
    let tested = called in
    (λ i. whole (c.minus_as_float.ensures i) (c.minus_mod_4.ensures i))
    ∙ near_neg tested.args.p called.half_up-n.result tested.if-p.true tested.if-p-2.true called.half_up-n.ensures.nearest

pub returns-then-p-3 : goal.returns-then-p-3
unfolding of_bits neg
returns-then-p-3 c =
    let called = c in
    let tested = called in
    let start = tested in
    ap (whole start.args.p) c.minus_mod_4-then-p-3.ensures
    ∙ mid_neg start.args.p called.truncating_f64_to_u64.result (held start.args.p start.well_formed.0.1) tested.if-p.true tested.if-p-2.false tested.if-p-3.true
    called.truncating_f64_to_u64.ensures

pub returns-else-p-3 : goal.returns-else-p-3
unfolding of_bits neg
returns-else-p-3 c = huge_neg c.args.p (held c.args.p c.well_formed.0.1) c.if-p.true c.if-p-3.false

pub returns-then-p-4 : goal.returns-then-p-4
unfolding of_bits
returns-then-p-4 c =
    let called = c in
    let tested = called in
    ap (λ (x : Float). whole x (called.half_up-n-then-p-4.result % 4)) c.as_float.ensures
    ∙ near_pos tested.args.p called.half_up-n-then-p-4.result tested.if-p.false tested.if-p-4.true called.half_up-n-then-p-4.ensures.nearest

pub returns-then-p-5 : goal.returns-then-p-5
unfolding of_bits
returns-then-p-5 c =
    let tested = c in
    let start = tested in
    mid_pos start.args.p c.truncating_f64_to_u64-then-p-5.result (held start.args.p start.well_formed.0.1) tested.if-p-4.false tested.if-p-5.true c.truncating_f64_to_u64-then-p-5.ensures

pub returns-else-p-5 : goal.returns-else-p-5
unfolding of_bits
returns-else-p-5 c = huge_pos c.args.p (held c.args.p c.well_formed.0.1) c.if-p.false c.if-p-5.false
