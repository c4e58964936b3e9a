-- Figures of the definitions of Angle.antt.
use Rattle.std.specs.Prelude.{◌≡◌, refl, pos}
use Rattle.std.specs.Float.{binary64}
use Rattle.std.specs.Float.Ieee.{mul, div, of_int, of_bits}
use Rattle.ieee.specs.Number.{pi}
use Rattle.trig.specs.Angle.{per_degree, to_radians}

-- the float PI divided by 180
pub per_degree_lem : per_degree ≡ div binary64 (pi) (of_int binary64 (pos 180))
unfolding per_degree div of_bits of_int
per_degree_lem = refl

-- 180 degrees are the float PI
pub half_turn : to_radians (record { 0 = of_int binary64 (pos 180) }) ≡ record { 0 = pi }
unfolding to_radians per_degree mul of_bits of_int
half_turn = refl
