-- `mesh_write::turn_all` meets its contract: the triangles before i are turned. Assumes nothing.
use mathlib.Core.Path.{◌≡◌}
use Prim.Native.Nat.{◌≤◌}
use lib.ListN.{length}
use Rattle.mesh_balance_spec.specs.Soup.{flip_tri}
use Rattle.mesh_triples.specs.Triples.{each_to}
use Rattle.mesh_write.proofs.turn_all.Given as goal

abbrev pub invariant-loop-i : goal.invariant-loop-i
invariant-loop-i l = (l.i ≤ l.count) × (length l.triangles ≡ length l.initial.triangles) × (l.triangles ≡ each_to flip_tri l.i l.initial.triangles)
