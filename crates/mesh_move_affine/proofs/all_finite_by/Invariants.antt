-- `mesh_move_affine::all_finite_by` meets its contract: ok and what is left to test decide as the whole does. Assumes nothing.
use Rattle.math.specs.declared.Vec3.{Vec3}
use Rattle.mesh_triples.proofs.PointLoops.{Testing}
use Rattle.mesh_move_affine.specs.Affine.{Computes}
use Rattle.mesh_move_affine.proofs.all_finite_by.Given as goal

abbrev pub invariant-loop-i : goal.invariant-loop-i
invariant-loop-i g l = (f : Vec3 → Vec3) → Computes (goal.F-post g l.value) f l.vertices l.n → Testing f l.vertices l.n l.ok l.i
