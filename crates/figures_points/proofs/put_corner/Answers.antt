-- `figures_points::put_corner` meets its contract. Assumes nothing.
use Rattle.slice_text.specs.LineLaws.{then}
use borrow.Author.Rules.{rules}
use Rattle.figures_points.proofs.put_corner.Goals as goal

pub returns : goal.returns
returns c =
    let p1 = c in
    let p2 = p1 in
    let p3 = p2 in
    let p4 = p3 in
    then p4.put-to.ensures (then p3.put_float-to.ensures (then p2.put_next-to.ensures p1.put.ensures))
