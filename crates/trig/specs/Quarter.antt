-- The test by which the code finds the quarter points.
use Rattle.std.specs.Prelude.{Bool, ◌&&◌, Float}
use Rattle.std.specs.Float.{binary64}
use Rattle.std.specs.Float.Ieee.{eq, le, mul, of_bits, neg}
use Rattle.trig_spec.specs.Trig.{half_pi}

-- 4.0
abbrev pub four : Float
four = of_bits binary64 0x4010000000000000

-- m from −4 to 4, and x equals m × the float PI / 2. m is meant to be whole, which is not tested
unfoldable pub is_quarter_point : Float → Float → Bool
unfolding half_pi
is_quarter_point x m = (le m four && le (neg m) four) && eq x (mul binary64 m half_pi)
