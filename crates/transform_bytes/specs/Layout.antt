-- Points, rows and operations in bytes: floats of 8 bytes one after the other. Definitions only.
use Rattle.std.specs.Prelude.{cond, List, ℕ, ◌+◌, eqb}
use Rattle.math.specs.declared.Vec3.{Vec3}
use Rattle.math_matrix.specs.declared.Row.{Row}
use Rattle.transform.specs.declared.TransformOp.{TransformOp}
use Rattle.transform.specs.declared.TransformOp.TheVariants.{Translate, RotateOrigin, RotateX, RotateY, RotateZ, Scale, Scale3, Matrix}
use Rattle.slice_bytes.specs.Bytes.{float_at}

-- three floats from a place on
abbrev pub vec_at : List ℕ → ℕ → Vec3
vec_at b at = record { x = float_at b at; y = float_at b (at + 8); z = float_at b (at + 16) }

-- four floats from a place on
abbrev pub row_at : List ℕ → ℕ → Row
row_at b at = record { x = float_at b at; y = float_at b (at + 8); z = float_at b (at + 16); w = float_at b (at + 24) }

-- a matrix of sixteen floats from a place on, row by row
abbrev pub matrix_at : List ℕ → ℕ → TransformOp
matrix_at b at = Matrix (row_at b at) (row_at b (at + 32)) (row_at b (at + 64)) (row_at b (at + 96))

-- the floats of an operation by its kind, 1 to 8 in the order of `TransformOp`: 3, 4, 1, 1, 1, 1, 3, 16; any other kind counts as 8
unfoldable pub op_floats : ℕ → ℕ
op_floats kind =
    cond (eqb kind 1) 3
    (cond (eqb kind 2) 4
    (cond (eqb kind 3) 1
    (cond (eqb kind 4) 1
    (cond (eqb kind 5) 1
    (cond (eqb kind 6) 1
    (cond (eqb kind 7) 3
    16))))))

-- an operation by its kind, 1 to 8 in the order of `TransformOp`, and the place of its first float; any other kind counts as 8
unfoldable pub op_of_kind : ℕ → List ℕ → ℕ → TransformOp
op_of_kind kind b n =
    cond (eqb kind 1) (Translate (vec_at b n))
    (cond (eqb kind 2) (RotateOrigin (vec_at b n) (float_at b (n + 24)))
    (cond (eqb kind 3) (RotateX (float_at b n))
    (cond (eqb kind 4) (RotateY (float_at b n))
    (cond (eqb kind 5) (RotateZ (float_at b n))
    (cond (eqb kind 6) (Scale (float_at b n))
    (cond (eqb kind 7) (Scale3 (vec_at b n))
    (matrix_at b n)))))))
