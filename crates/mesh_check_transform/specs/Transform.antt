-- The refusals of `transform`, in docs/SCOPE.md's order: 8, 4, 1, 8 for the box, 2, 5. Definitions only.
use Rattle.std.specs.Prelude.{Bool, not, ◌||◌, cond, List, map, ℕ, take, eqb}
use Rattle.math.specs.declared.Vec3.{Vec3}
use Rattle.math.specs.Vec.{v_finite}
use Rattle.math_matrix.specs.Mat.{transform_point}
use Rattle.transform.specs.declared.TransformOp.{TransformOp}
use Rattle.transform.specs.Ops.{folded}
use Rattle.transform.specs.Checks.{too_many_ops, ops_finite, ops_angles_within}
use Rattle.mesh_spec.specs.Mesh.{Mesh}
use Rattle.mesh_spec.specs.Edits.{transform}
use Rattle.refusal.specs.Answer.{Answer, Accepted, NotFinite, AngleTooLarge, BadList, PointNotFinite, BadMesh}
use Rattle.slice.specs.Every.{every}
use Rattle.mesh_check.specs.State.{State, mesh_of, bad_mesh, not_finite, bad_box}

-- a mesh under the first `count` operations, their angles in degrees or in radians
unfoldable pub transformed : List TransformOp → ℕ → Bool → Mesh → Mesh
transformed ops count degrees m = transform (folded degrees (take count ops)) m

-- 8, 4, 1 on the vertices or on the operations, 8 for the box, 2, and where there are operations 5
unfoldable pub transform_refusal : List TransformOp → ℕ → Bool → State → Answer
unfolding every transformed
transform_refusal ops count degrees s =
    cond (bad_mesh s) BadMesh
    (cond (too_many_ops count) BadList
    (cond (not_finite s || not (ops_finite (take count ops))) NotFinite
    (cond (bad_box s) BadMesh
    (cond (not (ops_angles_within degrees (take count ops))) AngleTooLarge
    (cond (eqb count 0) Accepted
    (cond (every v_finite (transformed ops count degrees (mesh_of s)).vertices) Accepted PointNotFinite))))))

-- the end of that, for the vertices as points: 2, and where there are operations 5
unfoldable pub move_refusal : List TransformOp → ℕ → Bool → List Vec3 → Answer
move_refusal ops count degrees ps =
    cond (not (ops_angles_within degrees (take count ops))) AngleTooLarge
    (cond (eqb count 0) Accepted
    (cond (every v_finite (map (transform_point (folded degrees (take count ops))) ps)) Accepted PointNotFinite))
