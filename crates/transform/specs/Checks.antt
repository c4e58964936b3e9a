-- What docs/SCOPE.md's refusals 4, 1 and 2 ask of operations.
use Rattle.std.specs.Prelude.{ℕ, Bool, true, ◌&&◌, List, ltb}
use Rattle.std.specs.Float.Ieee.Scale.{finite}
use Rattle.slice.specs.Every.{every}
use Rattle.math_matrix.specs.declared.Row.{Row}
use Rattle.math.specs.Vec.{v_finite}
use Rattle.transform.specs.declared.TransformOp.{TransformOp}
use Rattle.transform.specs.declared.TransformOp.TheVariants.{Translate, RotateOrigin, RotateX, RotateY, RotateZ, Scale, Scale3, Matrix}
use Rattle.transform.specs.Angle.{angle_radians, within1000}
use Rattle.transform.specs.Ops.{most_ops}

-- refusal 4: more than 16 operations
abbrev pub too_many_ops : ℕ → Bool
too_many_ops count = ltb most_ops count

-- whether the four numbers of a row are finite
unfoldable pub row_finite : Row → Bool
row_finite r = finite r.x && finite r.y && finite r.z && finite r.w

-- refusal 1: whether every number of an operation is finite
unfoldable pub op_finite : TransformOp → Bool
op_finite (Translate v) = v_finite v
op_finite (RotateOrigin v a) = v_finite v && finite a
op_finite (RotateX a) = finite a
op_finite (RotateY a) = finite a
op_finite (RotateZ a) = finite a
op_finite (Scale s) = finite s
op_finite (Scale3 v) = v_finite v
op_finite (Matrix p q r s) = row_finite p && row_finite q && row_finite r && row_finite s

-- refusal 2: whether the rotation angle of an operation, in radians, is within 1000; true of one without an angle
unfoldable pub op_angle_within : Bool → TransformOp → Bool
op_angle_within degrees (Translate v) = true
op_angle_within degrees (RotateOrigin v a) = within1000 (angle_radians degrees a)
op_angle_within degrees (RotateX a) = within1000 (angle_radians degrees a)
op_angle_within degrees (RotateY a) = within1000 (angle_radians degrees a)
op_angle_within degrees (RotateZ a) = within1000 (angle_radians degrees a)
op_angle_within degrees (Scale s) = true
op_angle_within degrees (Scale3 v) = true
op_angle_within degrees (Matrix p q r s) = true

-- refusal 1, of a list of operations
unfoldable pub ops_finite : List TransformOp → Bool
ops_finite ops = every op_finite ops

-- refusal 2, of a list of operations
unfoldable pub ops_angles_within : Bool → List TransformOp → Bool
ops_angles_within degrees ops = every (op_angle_within degrees) ops
