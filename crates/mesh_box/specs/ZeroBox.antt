-- What the box of a refused mesh is. Definitions only.
use Rattle.std.specs.Float.{binary64}
use Rattle.std.specs.Float.Ieee.{of_bits}
use Rattle.math.specs.declared.BoundingBox.{BoundingBox}

-- the box from zero to zero
unfoldable pub zero_box : BoundingBox
zero_box = let o = of_bits binary64 0 in record { min = record { x = o; y = o; z = o }; max = record { x = o; y = o; z = o } }
