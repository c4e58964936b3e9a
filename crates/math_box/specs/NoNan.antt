-- Boxes of which no bound is a NaN, as the empty box and every box that is grown from it. Definitions only.
use Rattle.std.specs.Prelude.{not, T}
use Rattle.std.specs.Float.Ieee.{is_nan}
use Rattle.math.specs.declared.Vec3.{Vec3}
use Rattle.math.specs.declared.BoundingBox.{BoundingBox}

-- no coordinate is a NaN
pub record NoNanV (v : Vec3) : Type 0 where
  pub x : T (not (is_nan v.x))
  pub y : T (not (is_nan v.y))
  pub z : T (not (is_nan v.z))

-- no bound is a NaN
pub record NoNan (b : BoundingBox) : Type 0 where
  pub min : NoNanV b.min
  pub max : NoNanV b.max
