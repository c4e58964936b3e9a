-- Which refusal `transform` answers where several are due, by computation: 8, 4, 1, 8 for the box, 2. The slices have places for two vertices, of which one is
-- counted, and none for a triangle. Assumes nothing.
use Rattle.std.specs.Prelude.{◌≡◌, refl, false, [], ◌∷◌, ℕ}
use Rattle.std.specs.Float.{nan, binary64}
use Rattle.std.specs.Float.Ieee.{add, of_int, of_bits, eq, lt, le, is_nan}
use Rattle.ieee.specs.Number.{minimum, maximum, absolute}
use Rattle.slice.specs.Every.{counted_places, every}
use Rattle.math.specs.Vec.{v_min, v_max}
use Rattle.math.specs.Box.{empty_box, include}
use Rattle.transform.specs.declared.TransformOp.{TransformOp}
use Rattle.transform.specs.declared.TransformOp.TheVariants.{RotateZ, Scale}
use Rattle.transform.specs.Angle.{within1000, angle_radians}
use Rattle.transform.specs.Checks.{too_many_ops, op_finite, ops_finite, op_angle_within, ops_angles_within}
use Rattle.mesh_spec.specs.Mesh.{plus_zero_v, same_point}
use Rattle.mesh_spec.specs.Measures.{including, plus_zero_box, box_of, bounding_box, same_box}
use Rattle.refusal.specs.Answer.{Answer, Accepted, NotFinite, AngleTooLarge, BadList, BadMesh}
use Rattle.mesh_check.specs.State.{State, mesh_of, bad_mesh, not_finite, has_right_box, bad_box}
use Rattle.mesh_check.specs.BoxExamples.{float, between, first, second, claims}
use Rattle.mesh_check_transform.specs.Transform.{transform_refusal}

-- transform_refusal of one operation counted so often, in radians, with what it takes to compute it
unfoldable answer : TransformOp → ℕ → State → Answer
unfolding transform_refusal ops_finite op_finite ops_angles_within op_angle_within within1000 angle_radians absolute bad_mesh not_finite bad_box has_right_box
    counted_places every mesh_of bounding_box box_of including include empty_box plus_zero_box plus_zero_v same_box same_point v_min v_max minimum maximum is_nan lt le eq
    add of_int of_bits
answer op count s = transform_refusal (op ∷ []) count false s

-- under its own box, and under another
abbrev right : State
right = claims 1 first second (between first first)

abbrev wrong : State
wrong = claims 1 first second (between first second)

operations_before_box : answer (Scale (float 1)) 17 wrong ≡ BadList
unfolding answer
operations_before_box = refl

-- 1 judges the operations too
finite_before_box : answer (Scale nan) 1 wrong ≡ NotFinite
unfolding answer
finite_before_box = refl

box_before_angles : answer (RotateZ (float 1001)) 1 wrong ≡ BadMesh
unfolding answer
box_before_angles = refl

angle_too_large : answer (RotateZ (float 1001)) 1 right ≡ AngleTooLarge
unfolding answer
angle_too_large = refl

-- without operations the box is asked all the same
box_without_operations : answer (Scale (float 1)) 0 wrong ≡ BadMesh
unfolding answer
box_without_operations = refl

no_operations : answer (Scale (float 1)) 0 right ≡ Accepted
unfolding answer
no_operations = refl
