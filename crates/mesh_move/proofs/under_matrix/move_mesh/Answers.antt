-- `mesh_move::under_matrix::move_mesh` meets its contract: the vertices moved, the triangles turned or not, and the record of them. Assumes nothing.
use Rattle.mesh_check.specs.State.{state}
use Rattle.mesh_move.proofs.Moving.{mirrored, only_moved}
use borrow.Author.Rules.{rules}
use Rattle.mesh_move.proofs.under_matrix.move_mesh.Goals as goal

pub move_known-bounds-requires : goal.move_known-bounds-requires
move_known-bounds-requires c = let p = c.requires in record { within = p.sound.vertices; finite = p.finite }

pub returns-then-determinant : goal.returns-then-determinant
returns-then-determinant c =
    let c5 = c in
    let c6 = c5 in
    let c9 = c6 in
    let c13 = c9 in
    let a = c13.args in
    let s = state a.mesh a.vertices.now a.triangles.now in
    mirrored s c13.requires.sound a.a c6.determinant.result c6.determinant.ensures _ c9.move_known-bounds.result c9.move_known-bounds.ensures
    c.record_of.result c.record_of.ensures _ c5.if-determinant.true c.turn_all.ensures

pub returns : goal.returns
returns c =
    let c2 = c in
    let c5 = c2 in
    let c9 = c5 in
    let a = c9.args in
    let s = state a.mesh a.vertices.now a.triangles.now in
    only_moved s c9.requires.sound a.a c2.determinant.result c2.determinant.ensures _ c5.move_known-bounds.result c5.move_known-bounds.ensures
    c.record_of-2.result c.record_of-2.ensures c.if-determinant.false
