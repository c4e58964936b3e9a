-- `weld_quad::corners::weld_both` meets its contract: each point once, then what was seen is found again. Assumes nothing.
use borrow.Author.Rules.{rules}
use Rattle.weld_triangle.proofs.Triangle.{linked_after, faces_after}
use Rattle.weld_quad.proofs.Quads.{both_welded}
use Rattle.weld_quad.proofs.corners.weld_both.Goals as goal

pub weld_point-c-requires : goal.weld_point-c-requires
weld_point-c-requires c = (c.weld_point-b.ensures.runs.linked, c.requires.clean.2)

pub add_triangle-requires : goal.add_triangle-requires
add_triangle-requires c =
    let x = c.weld_point-a.ensures in
    let y = c.weld_point-b.ensures in
    let z = c.weld_point-c.ensures in
    (faces_after z (faces_after y (faces_after x c.requires.ready.faces)), x.runs.small, y.runs.small, z.runs.small)

pub weld_point-d-requires : goal.weld_point-d-requires
weld_point-d-requires c = (linked_after c.add_triangle.ensures c.weld_point-c.ensures.runs.linked, c.requires.clean.3)

pub add_triangle-requires-2 : goal.add_triangle-requires-2
add_triangle-requires-2 c =
    let q = c.weld_point-d.ensures in
    (faces_after q c.add_triangle.ensures.runs.faces, c.weld_point-a.ensures.runs.small, c.weld_point-c.ensures.runs.small, q.runs.small)

pub returns : goal.returns
returns c =
    both_welded c.args.p (record { a = c.weld_point-a.result; b = c.weld_point-b.result; c = c.weld_point-c.result; d = c.weld_point-d.result })
    c.weld_point-a.ensures c.weld_point-b.ensures c.weld_point-c.ensures c.add_triangle.ensures c.weld_point-d.ensures c.add_triangle-2.ensures
