-- The box before place at, and whether the vertices before it are finite.
use Prim.Native.Nat.{◌*◌}
use lib.ListN.{take}
use Rattle.mesh_spec.specs.Slices.{points}
use Rattle.mesh_box.proofs.Including.{Including}
use Rattle.mesh_box.proofs.FiniteFloats.{Finite}
use Rattle.mesh_box.proofs.finite_box.Given as goal

abbrev pub invariant-loop-at : goal.invariant-loop-at
invariant-loop-at l = Including (points (take (3 * l.n) l.vertices)) l.b l.at × Finite (points (take (3 * l.n) l.vertices)) l.ok l.at
