-- `mesh_box::finite_box` meets its contract. Assumes nothing.
use mathlib.Core.Path.{refl}
use Prim.Native.Nat.{◌≤◌, ◌*◌}
use lib.ListN.{take}
use Rattle.mesh_spec.specs.Slices.{points}
use Rattle.mesh_box.specs.FiniteBox.{finite_box}
use Rattle.mesh_box.proofs.Including.{including_start, vertex_turn, vertex_end}
use Rattle.mesh_box.proofs.FiniteFloats.{finite_turn, finite_end}
use native.Mathlib.Omega.{arith}
use Rattle.mesh_box.proofs.finite_box.Goals as goal

pub loop-at-init : goal.loop-at-init
loop-at-init c =
    let a = c.args in
    (including_start (points (take (3 * a.n) a.vertices.now)) c.empty_box-b.result c.empty_box-b.ensures, refl)

pub include-b-requires : goal.include-b-requires
include-b-requires c = c.loop-at.invariant.0.no_nan

pub loop-at-preserved : goal.loop-at-preserved
loop-at-preserved c =
    let l = c.loop-at in
    let a = c.args in
    let v = c.vertex-p in
    let t = c.is_finite-ok in (
      vertex_turn a.vertices.now a.n (omega arith) l.at v.result l.b c.include-b.result (omega arith) v.ensures c.include-b.ensures l.invariant.0,
      finite_turn a.vertices.now a.n (omega arith) l.at v.result l.ok t.result (omega arith) v.ensures t.ensures l.invariant.1,
    )

pub returns : goal.returns
unfolding finite_box
returns c j =
    let l = c.loop-at in
    let a = c.args in
    record {
      finite = finite_end a.vertices.now a.n (omega arith) l.at l.ok (omega arith) l.invariant.1 j;
      bounds = vertex_end a.vertices.now a.n (omega arith) l.at l.b c.plus_zero.result (omega arith) c.plus_zero.ensures l.invariant.0 j;
    }
