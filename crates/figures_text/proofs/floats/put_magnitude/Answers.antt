-- `figures_text::floats::put_magnitude` meets its contract. Assumes nothing.
use mathlib.Core.Path.{sym, ◌∙◌}
use Rattle.slice_text.specs.LineLaws.{then}
use Rattle.figures_text.proofs.Cases.{whole_text, half_text, other_text}
use borrow.Author.Rules.{rules}
use Rattle.figures_text.proofs.floats.put_magnitude.Goals as goal

pub returns-then-is_whole : goal.returns-then-is_whole
returns-then-is_whole c =
    let p1 = c in
    let p2 = p1 in
    let p3 = p2 in
    let p4 = p3 in
    let p5 = p4 in
    whole_text _ p5.from_bits-y.ensures (sym p4.is_whole.ensures ∙ p3.if-is_whole.true) p2.ceil_to_usize.ensures p1.put_decimal.ensures

pub returns-then-is_whole-2 : goal.returns-then-is_whole-2
returns-then-is_whole-2 c =
    let p1 = c in
    let p2 = p1 in
    let p3 = p2 in
    let p4 = p3 in
    let p5 = p4 in
    let p6 = p5 in
    let p7 = p6 in
    let p8 = p7 in
    half_text _ p8.from_bits-y.ensures (sym p7.is_whole.ensures ∙ p6.if-is_whole.false) (sym p5.is_whole-2.ensures ∙ p4.if-is_whole-2.true)
    p3.ceil_to_usize-then-is_whole-2.ensures (then p2.put_decimal-to.ensures p1.put.ensures)

pub returns : goal.returns
returns c =
    let p1 = c in
    let p2 = p1 in
    let p3 = p2 in
    let p4 = p3 in
    let p5 = p4 in
    let p6 = p5 in
    other_text _ p6.from_bits-y.ensures (sym p5.is_whole.ensures ∙ p4.if-is_whole.false) (sym p3.is_whole-2.ensures ∙ p2.if-is_whole-2.false)
    p1.put_by_bits.ensures
