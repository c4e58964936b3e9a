-- `figures_points::put_triangle_at` meets its contract. Assumes nothing.
use borrow.Author.Tests.{le-leb, lt-leb, eq-eqb, ne_eqb}
use Rattle.slice_text.specs.LineLaws.{then}
use Rattle.figures_points.proofs.Cases.{no_triangle, first_triangle, next_triangle}
use borrow.Author.Rules.{rules}
use Rattle.figures_points.proofs.put_triangle_at.Goals as goal

pub returns-then-t-i : goal.returns-then-t-i
returns-then-t-i c = no_triangle _ _ (le-leb _ _ c.if-t-i.true) _

pub returns-then-i-eq0 : goal.returns-then-i-eq0
returns-then-i-eq0 c =
    let p1 = c in
    let p2 = p1 in
    let p3 = p2 in
    first_triangle _ _ (lt-leb _ _ p3.if-t-i.false) (eq-eqb _ _ p2.if-i-eq0.true) p1.put_triangle.ensures

pub returns : goal.returns
returns c =
    let p1 = c in
    let p2 = p1 in
    let p3 = p2 in
    let p4 = p3 in
    next_triangle _ _ (lt-leb _ _ p4.if-t-i.false) (ne_eqb _ _ p3.if-i-eq0.false) (then p2.put-to.ensures p1.put_triangle-2.ensures)
