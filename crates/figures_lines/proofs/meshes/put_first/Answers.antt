-- `figures_lines::meshes::put_first` meets its contract. Assumes nothing.
use borrow.Author.Rules.{rules}
use Rattle.slice_text.specs.LineLaws.{then}
use Rattle.figures_lines.proofs.meshes.put_first.Goals as goal

pub returns : goal.returns
returns c =
    let p1 = c in
    let p2 = p1 in
    let p3 = p2 in
    let p4 = p3 in
    let p5 = p4 in
    then p5.put-to.ensures (then p4.put_points-to.ensures (then p3.put-to-2.ensures (then p2.put_triangles-to.ensures p1.put.ensures)))
