-- `figures_points::put_point_at` meets its contract. Assumes nothing.
use borrow.Author.Tests.{le-leb, lt-leb}
use Rattle.slice_text.specs.LineLaws.{then}
use Rattle.figures_points.proofs.Cases.{no_point, point_text}
use borrow.Author.Rules.{rules}
use Rattle.figures_points.proofs.put_point_at.Goals as goal

pub returns-then-v-i : goal.returns-then-v-i
returns-then-v-i c = no_point _ _ (le-leb _ _ c.if-v-i.true) _

pub returns : goal.returns
returns c =
    let p1 = c in
    let p2 = p1 in
    let p3 = p2 in
    point_text _ _ (lt-leb _ _ p3.if-v-i.false) (then p2.put-to.ensures p1.put_point.ensures)
