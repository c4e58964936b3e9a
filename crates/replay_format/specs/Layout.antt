-- Where the fields of a case and of an operation stand in their bytes (tests/README.md, "A case"). Definitions only.
use Rattle.std.specs.Prelude.{cond, List, ℕ, ◌+◌, eqb, get_or}
use Rattle.math.specs.declared.Vec3.{Vec3}
use Rattle.math.specs.declared.BoundingBox.{BoundingBox}
use Rattle.math_matrix.specs.declared.Row.{Row}
use Rattle.transform.specs.declared.TransformOp.{TransformOp}
use Rattle.transform.specs.declared.TransformOp.TheVariants.{Translate, RotateOrigin, RotateX, RotateY, RotateZ, Scale, Scale3, Matrix}
use Rattle.replay_format.specs.declared.head.Head.{Head}
use Rattle.slice_bytes.specs.Bytes.{word_at, float_at}

-- three floats from a place on
abbrev pub vec_at : List ℕ → ℕ → Vec3
vec_at b at = record { x = float_at b at; y = float_at b (at + 8); z = float_at b (at + 16) }

-- the box of six floats from byte 48 on: least x, y, z, then greatest x, y, z
abbrev pub bounds_of : List ℕ → BoundingBox
bounds_of b = record { min = vec_at b 48; max = vec_at b 72 }

-- the head of a case
unfoldable pub head_of : List ℕ → Head
head_of b =
    record {
      what = get_or b 0 0;
      shape = get_or b 1 0;
      own_system = get_or b 2 0;
      default_system = get_or b 3 0;
      degrees = get_or b 4 0;
      norm_dir = get_or b 5 0;
      rot_axis_dir = get_or b 6 0;
      segments = word_at b 8;
      sphere_rings = word_at b 12;
      vertex_floats = word_at b 16;
      triangle_numbers = word_at b 20;
      work_numbers = word_at b 24;
      op_count = word_at b 28;
      list_floats = word_at b 32;
      loaded_numbers = word_at b 36;
      vertex_count = word_at b 40;
      triangle_count = word_at b 44;
      bounds = bounds_of b;
    }

-- four floats from a place on
abbrev pub row_at : List ℕ → ℕ → Row
row_at b at = record { x = float_at b at; y = float_at b (at + 8); z = float_at b (at + 16); w = float_at b (at + 24) }

-- a matrix of sixteen floats from a place on, row by row
abbrev pub matrix_at : List ℕ → ℕ → TransformOp
matrix_at b at = Matrix (row_at b at) (row_at b (at + 32)) (row_at b (at + 64)) (row_at b (at + 96))

-- an operation by its kind, 1 to 8 in the order of `TransformOp`, and the place of its first number; any other kind counts as 8
unfoldable pub op_of_kind : ℕ → List ℕ → ℕ → TransformOp
op_of_kind k b n =
    cond (eqb k 1) (Translate (vec_at b n))
    (cond (eqb k 2) (RotateOrigin (vec_at b n) (float_at b (n + 24)))
    (cond (eqb k 3) (RotateX (float_at b n))
    (cond (eqb k 4) (RotateY (float_at b n))
    (cond (eqb k 5) (RotateZ (float_at b n))
    (cond (eqb k 6) (Scale (float_at b n))
    (cond (eqb k 7) (Scale3 (vec_at b n))
    (matrix_at b n)))))))

-- the operation of 136 bytes at a place
abbrev pub op_at : List ℕ → ℕ → TransformOp
op_at b at = op_of_kind (get_or b at 0) b (at + 8)
