-- Points and directions, as src/math.rs has them in `impl Vec3` and its operators. Each operation rounds once, to binary64.
use Rattle.std.specs.Prelude.{ℕ, zero, suc, Bool, false, cond, ◌&&◌, pos, Float}
use Rattle.std.specs.Float.{fin, binary64}
use Rattle.std.specs.Float.Ieee.{add, sub, mul, div, lt}
use Rattle.std.specs.Float.Ieee.Scale.{finite}
use Rattle.ieee.specs.Same.{plus_zero}
use Rattle.ieee.specs.Number.{minimum, maximum}
use Rattle.root.specs.Sqrt.{sqrt}
use Rattle.math.specs.declared.Vec3.{Vec3}

-- 1.0
abbrev pub one : Float
one = fin false 1 (pos 0)

-- `Vec3::new`
abbrev pub new : Float → Float → Float → Vec3
new x y z = record { x = x; y = y; z = z }

-- `Vec3::ZERO`
abbrev pub zero_v : Vec3
zero_v = new plus_zero plus_zero plus_zero

-- `Vec3::unit`: axis 0 is x, 1 is y, and any other number counts as z
unfoldable pub unit : ℕ → Vec3
unit zero = new one plus_zero plus_zero
unit (suc zero) = new plus_zero one plus_zero
unit (suc (suc k)) = new plus_zero plus_zero one

-- `Index for Vec3`, `v[k]`, by the same axis numbers
unfoldable pub axis : Vec3 → ℕ → Float
axis v zero = v.x
axis v (suc zero) = v.y
axis v (suc (suc k)) = v.z

-- `IndexMut for Vec3`, v after `v[k] = s`, by the same axis numbers
unfoldable pub with_axis : Vec3 → ℕ → Float → Vec3
with_axis v zero s = new s v.y v.z
with_axis v (suc zero) s = new v.x s v.z
with_axis v (suc (suc k)) s = new v.x v.y s

-- `Add for Vec3`
unfoldable pub v_add : Vec3 → Vec3 → Vec3
v_add a b = new (add binary64 a.x b.x) (add binary64 a.y b.y) (add binary64 a.z b.z)

-- `Sub for Vec3`
unfoldable pub v_sub : Vec3 → Vec3 → Vec3
v_sub a b = new (sub binary64 a.x b.x) (sub binary64 a.y b.y) (sub binary64 a.z b.z)

-- `Mul<f64> for Vec3`
unfoldable pub v_mul : Vec3 → Float → Vec3
v_mul a s = new (mul binary64 a.x s) (mul binary64 a.y s) (mul binary64 a.z s)

-- `Div<f64> for Vec3`
unfoldable pub v_div : Vec3 → Float → Vec3
v_div a s = new (div binary64 a.x s) (div binary64 a.y s) (div binary64 a.z s)

-- `Vec3::dot`
unfoldable pub dot : Vec3 → Vec3 → Float
dot a b = add binary64 (add binary64 (mul binary64 a.x b.x) (mul binary64 a.y b.y)) (mul binary64 a.z b.z)

-- `Vec3::cross`
unfoldable pub cross : Vec3 → Vec3 → Vec3
cross a b =
    new
    (sub binary64 (mul binary64 a.y b.z) (mul binary64 a.z b.y))
    (sub binary64 (mul binary64 a.z b.x) (mul binary64 a.x b.z))
    (sub binary64 (mul binary64 a.x b.y) (mul binary64 a.y b.x))

-- `Vec3::norm_sq`
unfoldable pub norm_sq : Vec3 → Float
norm_sq a = dot a a

-- `Vec3::norm`
unfoldable pub norm : Vec3 → Float
norm a = sqrt binary64 (norm_sq a)

-- `Vec3::normalized`: zero where the norm is not above 0, as for a zero vector and for a NaN
unfoldable pub normalized : Vec3 → Vec3
normalized a = cond (lt plus_zero (norm a)) (v_div a (norm a)) zero_v

-- `Vec3::min`
unfoldable pub v_min : Vec3 → Vec3 → Vec3
v_min a b = new (minimum a.x b.x) (minimum a.y b.y) (minimum a.z b.z)

-- `Vec3::max`
unfoldable pub v_max : Vec3 → Vec3 → Vec3
v_max a b = new (maximum a.x b.x) (maximum a.y b.y) (maximum a.z b.z)

-- `Vec3::is_finite`
unfoldable pub v_finite : Vec3 → Bool
v_finite v = finite v.x && finite v.y && finite v.z
