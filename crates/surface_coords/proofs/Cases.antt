-- The definitions of `solid_spec` that go by cases, one law for each branch of the code. Assumes nothing.
use mathlib.Core.Path.{◌≡◌, sym, ap, ◌∙◌}
use mathlib.Core.Bool.{Bool, true, false}
use lib.Ieee.{Float, binary64, lt, of_bits}
use Rattle.ieee.specs.Number.{absolute}
use Rattle.math.specs.declared.Vec3.{Vec3}
use Rattle.math.specs.Vec.{unit}
use Rattle.solid_spec.specs.Coords.{cylindrical_to_cartesian, to_cartesian}
use Rattle.surface_coords.specs.Pieces.{beside}

-- to_cartesian
pub cartesian_of : (b : Bool) (p r : Vec3) → b ≡ true → r ≡ cylindrical_to_cartesian p → r ≡ to_cartesian b p
unfolding to_cartesian
cartesian_of b p r e d = d ∙ ap (λ (t : Bool). to_cartesian t p) (sym e)

pub cartesian_as : (b : Bool) (p : Vec3) → b ≡ false → p ≡ to_cartesian b p
unfolding to_cartesian
cartesian_as b p e = ap (λ (t : Bool). to_cartesian t p) (sym e)

-- beside
pub beside_x : (d : Vec3) (x : Float) (r : Vec3) → x ≡ absolute d.x → lt x (of_bits binary64 0x3FEC_CCCC_CCCC_CCCD) ≡ true → r ≡ unit 0 → r ≡ beside d
unfolding beside
beside_x d x r e t u = rw (← e, t) u

pub beside_y : (d : Vec3) (x : Float) (r : Vec3) → x ≡ absolute d.x → lt x (of_bits binary64 0x3FEC_CCCC_CCCC_CCCD) ≡ false → r ≡ unit 1 → r ≡ beside d
unfolding beside
beside_y d x r e t u = rw (← e, t) u
