-- `weld_cell::column::weld_turned_side` meets its contract: c, a triangle, then b, and a triangle. Assumes nothing.
use borrow.Author.Rules.{rules}
use Rattle.weld.specs.Welding.{same_then}
use Rattle.weld_triangle.proofs.Triangle.{linked_after, faces_after}
use Rattle.weld_cell.proofs.Side.{turned_side_runs}
use Rattle.weld_cell.proofs.column.weld_turned_side.Goals as goal

pub weld_point-nc-requires : goal.weld_point-nc-requires
weld_point-nc-requires c = (c.requires.ready.linked, c.requires.clean.1)

pub add_triangle-requires : goal.add_triangle-requires
add_triangle-requires c =
    let x = c.weld_point-nc.ensures in
    (faces_after x c.requires.ready.faces, c.requires.clean.2, c.requires.clean.3, x.runs.small)

pub weld_point-nb-requires : goal.weld_point-nb-requires
weld_point-nb-requires c = (linked_after c.add_triangle.ensures c.weld_point-nc.ensures.runs.linked, c.requires.clean.0)

pub add_triangle-requires-2 : goal.add_triangle-requires-2
add_triangle-requires-2 c =
    let y = c.weld_point-nb.ensures in
    (faces_after y c.add_triangle.ensures.runs.faces, c.requires.clean.2, c.weld_point-nc.ensures.runs.small, y.runs.small)

pub returns : goal.returns
returns c =
    let s = c.requires in
    let x = c.weld_point-nc.ensures in
    let u = c.add_triangle.ensures in
    let y = c.weld_point-nb.ensures in
    let v = c.add_triangle-2.ensures in
    record {
      same = same_then x.slices.same (same_then u.same (same_then y.slices.same v.same));
      runs = turned_side_runs c.args.b c.args.c c.args.n.a c.args.n.d s.ready x u y v s.clean.2 s.clean.3;
    }
