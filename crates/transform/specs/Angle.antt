-- The angle of an operation: docs/SCOPE.md, "Degrees and radians", and `ang` of `TransformOp::matrix` in src/transform.rs.
use Rattle.std.specs.Prelude.{Bool, cond, pos, Float}
use Rattle.std.specs.Float.{binary64}
use Rattle.std.specs.Float.Ieee.{le, of_int}
use Rattle.ieee.specs.Number.{absolute}
use Rattle.trig.specs.declared.Radians.{Radians}
use Rattle.trig.specs.Angle.{to_radians}

-- `ang` of `TransformOp::matrix`: an operation's angle, given in degrees or in radians
unfoldable pub angle_radians : Bool → Float → Radians
angle_radians degrees a = cond degrees (to_radians (record { 0 = a })) (record { 0 = a })

-- docs/SCOPE.md, refusal 2: the angle does not exceed 1000 in absolute value. A NaN is not within.
unfoldable pub within1000 : Radians → Bool
within1000 r = le (absolute r.0) (of_int binary64 (pos 1000))
