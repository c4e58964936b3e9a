-- `figures_text::floats::put_float_bits` meets its contract. Assumes nothing.
use borrow.Author.Tests.{le-leb, lt-leb}
use Rattle.slice_text.specs.LineLaws.{then}
use Rattle.figures_text.proofs.Cases.{minus_text, plain_text}
use borrow.Author.Rules.{rules}
use Rattle.figures_text.proofs.floats.put_float_bits.Goals as goal

pub returns-then-b-ge9223372036854775808 : goal.returns-then-b-ge9223372036854775808
returns-then-b-ge9223372036854775808 c =
    let p1 = c in
    let p2 = p1 in
    let p3 = p2 in
    minus_text _ (le-leb _ _ p3.if-b-ge9223372036854775808.true) (then p2.put-to.ensures p1.put_magnitude.ensures)

pub returns : goal.returns
returns c = plain_text _ (lt-leb _ _ c.if-b-ge9223372036854775808.false) c.put_magnitude-2.ensures
