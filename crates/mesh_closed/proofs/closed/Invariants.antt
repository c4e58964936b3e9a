-- `mesh_closed::closed` meets its contract: the triangles that are left pass the test where all do. Assumes nothing.
use mathlib.Core.Path.{◌≡◌}
use lib.ListN.{drop}
use Rattle.mesh_balance_spec.specs.Buffer.{tris}
use Rattle.slice.specs.Every.{every}
use Rattle.mesh_closed.specs.Even.{closed_triangle}
use Rattle.mesh_closed.proofs.closed.Given as goal

abbrev pub invariant-loop-i : goal.invariant-loop-i
invariant-loop-i l = every (closed_triangle l.n (tris l.t)) (drop l.i (tris l.t)) ≡ every (closed_triangle l.n (tris l.t)) (tris l.t)
