-- Parts of the definitions of `solid_spec`, for the functions that compute them: each is a subterm of the definition that its comment names. Definitions only.
use Rattle.std.specs.Prelude.{cond, Float}
use Rattle.std.specs.Float.{binary64}
use Rattle.std.specs.Float.Ieee.{mul, of_bits, lt}
use Rattle.ieee.specs.Number.{absolute}
use Rattle.trig_spec.specs.declared.SinCos.{SinCos}
use Rattle.math.specs.declared.Vec3.{Vec3}
use Rattle.math.specs.Vec.{new, unit, v_add, v_mul}

-- the axis of `frame1`: x where |d.x| < 0.9, else y
unfoldable pub beside : Vec3 → Vec3
beside d = cond (lt (absolute d.x) (of_bits binary64 0x3FEC_CCCC_CCCC_CCCD)) (unit 0) (unit 1)

-- `e1 * cs + e2 * sn` of `around_axis`
unfoldable pub in_frame : Vec3 → Vec3 → Float → Float → Vec3
in_frame e1 e2 cs sn = v_add (v_mul e1 cs) (v_mul e2 sn)

-- `cylindrical_to_cartesian` after `let t`, of a point with the given x and z
unfoldable pub cylindrical_by : SinCos → Float → Float → Vec3
cylindrical_by t x z = new (mul binary64 x t.cos) (mul binary64 x t.sin) z

-- `around_axis` after `let t`, of a point with the given x and z
unfoldable pub around_axis_by : Vec3 → Vec3 → Vec3 → Vec3 → SinCos → Float → Float → Vec3
around_axis_by a d e1 e2 t x z = v_add (v_add a (v_mul d z)) (v_mul (in_frame e1 e2 t.cos t.sin) x)
