-- The matrix of a rotation, as src/math.rs has it in `impl Mat4`. Definitions only.
use Rattle.std.specs.Prelude.{Float}
use Rattle.std.specs.Float.{binary64}
use Rattle.std.specs.Float.Ieee.{add, sub, mul}
use Rattle.ieee.specs.Same.{plus_zero}
use Rattle.trig.specs.declared.Radians.{Radians}
use Rattle.trig_spec.specs.Trig.{sin_cos}
use Rattle.math.specs.declared.Vec3.{Vec3}
use Rattle.math.specs.Vec.{one, normalized}
use Rattle.math_matrix.specs.declared.Mat4.{Mat4}
use Rattle.math_matrix.specs.Mat.{new_row, from_rows, last_row}

-- (t * u) * v
abbrev times : Float → Float → Float → Float
times t u v = mul binary64 (mul binary64 t u) v

-- `Mat4::rotation` from its line `let t` on: a is `normalized` of the axis, s and c are the sine and the cosine
unfoldable pub turn : Vec3 → Float → Float → Mat4
turn a s c =
    let t = sub binary64 one c in
    let x = a.x in
    let y = a.y in
    let z = a.z in
    from_rows
    (new_row
    (add binary64 (times t x x) c)
    (sub binary64 (times t x y) (mul binary64 s z))
    (add binary64 (times t x z) (mul binary64 s y))
    plus_zero)
    (new_row
    (add binary64 (times t x y) (mul binary64 s z))
    (add binary64 (times t y y) c)
    (sub binary64 (times t y z) (mul binary64 s x))
    plus_zero)
    (new_row
    (sub binary64 (times t x z) (mul binary64 s y))
    (add binary64 (times t y z) (mul binary64 s x))
    (add binary64 (times t z z) c)
    plus_zero)
    last_row

-- `Mat4::rotation`
unfoldable pub rotation : Vec3 → Radians → Mat4
rotation axis angle = turn (normalized axis) (sin_cos angle.0).sin (sin_cos angle.0).cos
