-- Matrices of four rows and four columns, as src/math.rs has them in `impl Mat4`. Each operation rounds once, to binary64.
use Rattle.std.specs.Prelude.{ℕ, ◌+◌, ◌*◌, cond, ◌&&◌, [], ◌∷◌, get_or, Float}
use Rattle.std.specs.Float.{nan, binary64}
use Rattle.std.specs.Float.Ieee.{add, sub, mul, div, ne}
use Rattle.ieee.specs.Same.{plus_zero}
use Rattle.math.specs.declared.Vec3.{Vec3}
use Rattle.math_matrix.specs.declared.Row.{Row}
use Rattle.math_matrix.specs.declared.Mat4.{Mat4}
use Rattle.math.specs.Vec.{one, new}

-- `m[i][j]`: the entry in row i and column j, both from 0 to 3. The array holds row after row, and the NaN, of a place past its end, is never met.
abbrev pub entry : Mat4 → ℕ → ℕ → Float
entry a i j = get_or a.m (i * 4 + j) nan

-- `m[i]`: row i, from 0 to 3
abbrev pub row_of : Mat4 → ℕ → Row
row_of a i = record { x = entry a i 0; y = entry a i 1; z = entry a i 2; w = entry a i 3 }

-- a row of four numbers
abbrev pub new_row : Float → Float → Float → Float → Row
new_row x y z w = record { x = x; y = y; z = z; w = w }

-- `Mat4::from_row_major`, of four rows
unfoldable pub from_rows : Row → Row → Row → Row → Mat4
from_rows p q r s = record {
  m =
      p.x ∷ p.y ∷ p.z ∷ p.w
      ∷ q.x ∷ q.y ∷ q.z ∷ q.w
      ∷ r.x ∷ r.y ∷ r.z ∷ r.w
      ∷ s.x ∷ s.y ∷ s.z ∷ s.w ∷ [];
}

-- the row that the identity and every translation, scaling and rotation end with
abbrev pub last_row : Row
last_row = new_row plus_zero plus_zero plus_zero one

-- `Mat4::IDENTITY`
unfoldable pub identity : Mat4
identity =
    from_rows
    (new_row one plus_zero plus_zero plus_zero)
    (new_row plus_zero one plus_zero plus_zero)
    (new_row plus_zero plus_zero one plus_zero)
    last_row

-- `Mat4::translation`
unfoldable pub translation : Vec3 → Mat4
translation t =
    from_rows
    (new_row one plus_zero plus_zero t.x)
    (new_row plus_zero one plus_zero t.y)
    (new_row plus_zero plus_zero one t.z)
    last_row

-- `Mat4::scaling`
unfoldable pub scaling : Vec3 → Mat4
scaling s =
    from_rows
    (new_row s.x plus_zero plus_zero plus_zero)
    (new_row plus_zero s.y plus_zero plus_zero)
    (new_row plus_zero plus_zero s.z plus_zero)
    last_row

-- one entry of `Mul for Mat4`: the sum of `self[i][k] * o[k][j]` for k from 0 to 3, starting at +0.0; r is row i of `self`, and p, q, s, t are column j of `o`
unfoldable pub product_entry : Row → Float → Float → Float → Float → Float
product_entry r p q s t =
    add binary64 (add binary64 (add binary64 (add binary64 plus_zero (mul binary64 r.x p)) (mul binary64 r.y q)) (mul binary64 r.z s))
    (mul binary64 r.w t)

-- one row of `Mul for Mat4`, from the row r of `self` and the rows p, q, s, t of `o`
unfoldable pub times_rows : Row → Row → Row → Row → Row → Row
unfolding product_entry
times_rows r p q s t = record {
  x = product_entry r p.x q.x s.x t.x;
  y = product_entry r p.y q.y s.y t.y;
  z = product_entry r p.z q.z s.z t.z;
  w = product_entry r p.w q.w s.w t.w;
}

-- the same, from the row r of `self` and `o`
unfoldable pub product_row : Row → Mat4 → Row
product_row r o = times_rows r (row_of o 0) (row_of o 1) (row_of o 2) (row_of o 3)

-- `Mul for Mat4`
unfoldable pub product : Mat4 → Mat4 → Mat4
product a o = from_rows (product_row (row_of a 0) o) (product_row (row_of a 1) o) (product_row (row_of a 2) o) (product_row (row_of a 3) o)

-- `m[i][0] * p[0] + m[i][1] * p[1] + m[i][2] * p[2] + m[i][3]` of `Mat4::transform_point`, r being row i
unfoldable pub along : Row → Vec3 → Float
along r p =
    add binary64
    (add binary64 (add binary64 (mul binary64 r.x p.x) (mul binary64 r.y p.y)) (mul binary64 r.z p.z))
    r.w

-- the last lines of `Mat4::transform_point`: x, y, z divided by w where w is neither 0 nor 1
unfoldable pub over_w : Float → Float → Float → Float → Vec3
over_w x y z w = cond (ne w one && ne w plus_zero) (new (div binary64 x w) (div binary64 y w) (div binary64 z w)) (new x y z)

-- `Mat4::transform_point`
unfoldable pub transform_point : Mat4 → Vec3 → Vec3
transform_point a p = over_w (along (row_of a 0) p) (along (row_of a 1) p) (along (row_of a 2) p) (along (row_of a 3) p)

-- u * v - w * x
abbrev minor : Float → Float → Float → Float → Float
minor u v w x = sub binary64 (mul binary64 u v) (mul binary64 w x)

-- `det` of `TriMesh::transform` in src/tessellate.rs, of the rows p, q and r of a matrix
unfoldable pub det_rows : Row → Row → Row → Float
det_rows p q r =
    add binary64
    (sub binary64
    (mul binary64 p.x (minor q.y r.z q.z r.y))
    (mul binary64 p.y (minor q.x r.z q.z r.x)))
    (mul binary64 p.z (minor q.x r.y q.y r.x))

-- the same of a matrix: its first three rows and columns
unfoldable pub determinant : Mat4 → Float
determinant a = det_rows (row_of a 0) (row_of a 1) (row_of a 2)
