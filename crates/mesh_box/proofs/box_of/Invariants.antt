-- The box before place i.
use Prim.Native.Nat.{◌*◌}
use lib.ListN.{take}
use Rattle.mesh_spec.specs.Slices.{points}
use Rattle.mesh_box.proofs.Including.{Including}
use Rattle.mesh_box.proofs.box_of.Given as goal

abbrev pub invariant-loop-i : goal.invariant-loop-i
invariant-loop-i l = Including (points (take (3 * l.n) l.vertices)) l.b l.i
