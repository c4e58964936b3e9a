-- The matrix of one operation and of a list of them: `TransformOp::matrix` and `Transform::rebuild` of src/transform.rs.
use Rattle.std.specs.Prelude.{ℕ, Bool, List, [], ◌∷◌, replicate, Float}
use Rattle.std.specs.Float.{binary64}
use Rattle.std.specs.Float.Ieee.{of_bits}
use Rattle.math.specs.declared.Vec3.{Vec3}
use Rattle.math_matrix.specs.declared.Mat4.{Mat4}
use Rattle.math.specs.Vec.{new, unit}
use Rattle.math_matrix.specs.Mat.{identity, translation, scaling, from_rows, product}
use Rattle.math_rotation.specs.Rotation.{rotation}
use Rattle.transform.specs.declared.TransformOp.{TransformOp}
use Rattle.transform.specs.declared.TransformOp.TheVariants.{Translate, RotateOrigin, RotateX, RotateY, RotateZ, Scale, Scale3, Matrix}
use Rattle.transform.specs.Angle.{angle_radians}

-- docs/SCOPE.md, refusal 4: an array of operations has 16 places, of which a count says how many count
abbrev pub most_ops : ℕ
most_ops = 16

-- the operation at places that do not count: Scale(1.0)
abbrev pub no_op : TransformOp
no_op = Scale (of_bits binary64 4607182418800017408)

-- no operations
abbrev pub no_ops : List TransformOp
no_ops = replicate most_ops no_op

-- the matrix of a rotation by the angle of an operation
unfoldable pub rotation_by : Bool → Vec3 → Float → Mat4
rotation_by degrees axis a = rotation axis (angle_radians degrees a)

-- `TransformOp::matrix`
unfoldable pub op_matrix : Bool → TransformOp → Mat4
op_matrix degrees (Translate v) = translation v
op_matrix degrees (RotateOrigin v a) = rotation_by degrees v a
op_matrix degrees (RotateX a) = rotation_by degrees (unit 0) a
op_matrix degrees (RotateY a) = rotation_by degrees (unit 1) a
op_matrix degrees (RotateZ a) = rotation_by degrees (unit 2) a
op_matrix degrees (Scale s) = scaling (new s s s)
op_matrix degrees (Scale3 v) = scaling v
op_matrix degrees (Matrix p q r s) = from_rows p q r s

-- the fold of `Transform::rebuild`: the matrix of each operation, in order, multiplies what stands so far from the left
unfoldable pub fold_from : Bool → Mat4 → List TransformOp → Mat4
fold_from degrees acc [] = acc
fold_from degrees acc (op ∷ ops) = fold_from degrees (product (op_matrix degrees op) acc) ops

-- `Transform::rebuild`, the forward matrix
unfoldable pub folded : Bool → List TransformOp → Mat4
folded degrees ops = fold_from degrees identity ops
