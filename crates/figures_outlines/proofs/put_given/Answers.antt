-- `figures_outlines::put_given` meets its contract. Assumes nothing.
use borrow.Author.Rules.{rules}
use borrow.Author.Tests.{eq-eqb, ne_eqb}
use Rattle.figures_outlines.proofs.Cases.{none_text, given_text}
use Rattle.slice_text.specs.LineLaws.{then}
use Rattle.figures_outlines.proofs.put_given.Goals as goal

pub returns-then-n-eq0 : goal.returns-then-n-eq0
returns-then-n-eq0 c = none_text _ _ (eq-eqb _ _ c.if-n-eq0.true) c.put.ensures

pub returns : goal.returns
returns c =
    let p1 = c in
    let p2 = p1 in
    let p3 = p2 in
    let p4 = p3 in
    given_text _ _ (ne_eqb _ _ p4.if-n-eq0.false) (then p3.put-to.ensures (then p2.put_triangles-to.ensures p1.put-2.ensures))
