-- `figures_points::put_triangle` meets its contract. Assumes nothing.
use Rattle.slice_text.specs.LineLaws.{then}
use borrow.Author.Rules.{rules}
use Rattle.figures_points.proofs.put_triangle.Goals as goal

pub returns : goal.returns
returns c =
    let p1 = c in
    let p2 = p1 in
    let p3 = p2 in
    then p3.put_number-to.ensures (then p2.put_number-to-2.ensures p1.put_number.ensures)
