-- `mesh_closed::count_uses` meets its contract: n and the uses in what is left are the uses in the whole. Assumes nothing.
use mathlib.Core.Path.{◌≡◌}
use Prim.Native.Nat.{◌+◌}
use lib.ListN.{drop}
use Rattle.mesh_balance_spec.specs.Count.{edges, uses}
use Rattle.mesh_balance_spec.specs.Buffer.{tris}
use Rattle.mesh_closed.proofs.count_uses.Given as goal

abbrev pub invariant-loop-i : goal.invariant-loop-i
invariant-loop-i l = l.n + uses l.u l.v (edges (drop l.i (tris l.t))) ≡ uses l.u l.v (edges (tris l.t))
