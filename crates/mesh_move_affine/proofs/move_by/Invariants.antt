-- `mesh_move_affine::move_by` meets its contract: the vertices before i are replaced, and their box is gathered. Assumes nothing.
use mathlib.Core.Path.{◌≡◌}
use lib.ListN.{length}
use Rattle.math_matrix.specs.declared.Mat4.{Mat4}
use Rattle.math_matrix.specs.Mat.{transform_point}
use Rattle.math_box.specs.NoNan.{NoNan}
use Rattle.mesh_move_affine.specs.Affine.{Computes}
use Rattle.mesh_move_affine.proofs.Gathering.{Gathering}
use Rattle.mesh_move_affine.proofs.move_by.Given as goal

-- the bounds are no NaN whatever the function gives
abbrev pub invariant-loop-i : goal.invariant-loop-i
invariant-loop-i g l =
    (length l.vertices ≡ length l.initial.vertices) × NoNan l.b
    × ((a : Mat4) → Computes (goal.F-post g l.value) (transform_point a) l.initial.vertices l.n → Gathering a l.initial.vertices l.n l.vertices l.b l.i)
