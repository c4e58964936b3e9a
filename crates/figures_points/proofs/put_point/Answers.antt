-- `figures_points::put_point` meets its contract. Assumes nothing.
use Rattle.slice_text.specs.LineLaws.{then}
use borrow.Author.Rules.{rules}
use Rattle.figures_points.proofs.put_point.Goals as goal

pub returns : goal.returns
returns c =
    let p1 = c in
    let p2 = p1 in
    let p3 = p2 in
    let p4 = p3 in
    let p5 = p4 in
    then p5.put-to.ensures (then p4.put_float-to.ensures (then p3.put_next-to.ensures (then p2.put_next-to-2.ensures p1.put.ensures)))
