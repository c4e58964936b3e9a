-- `mesh_box::box_of` meets its contract. Assumes nothing.
use Prim.Native.Nat.{◌≤◌, ◌*◌}
use lib.ListN.{take}
use Rattle.mesh_spec.specs.Slices.{points}
use Rattle.mesh_box.proofs.Including.{including_start, vertex_turn, vertex_end}
use native.Mathlib.Omega.{arith}
use Rattle.mesh_box.proofs.box_of.Goals as goal

pub loop-i-init : goal.loop-i-init
loop-i-init c = let a = c.args in including_start (points (take (3 * a.n) a.vertices.now)) c.empty_box-b.result c.empty_box-b.ensures

pub include-b-requires : goal.include-b-requires
include-b-requires c = c.loop-i.invariant.no_nan

pub loop-i-preserved : goal.loop-i-preserved
loop-i-preserved c =
    let l = c.loop-i in
    let a = c.args in
    let v = c.vertex in
    vertex_turn a.vertices.now a.n (omega arith) l.i v.result l.b c.include-b.result (omega arith) v.ensures c.include-b.ensures l.invariant

pub returns : goal.returns
returns c =
    let l = c.loop-i in
    let a = c.args in
    vertex_end a.vertices.now a.n (omega arith) l.i l.b c.plus_zero.result (omega arith) c.plus_zero.ensures l.invariant
