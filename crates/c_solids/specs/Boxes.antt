-- A box as six floats: least x, y, z, then greatest x, y, z. Definitions only.
use Rattle.std.specs.Prelude.{List, [], ◌∷◌, Float}
use Rattle.math.specs.declared.BoundingBox.{BoundingBox}
use Rattle.shape_fields.specs.Fields.{point_at}

-- the six floats of a box
unfoldable pub six_of : BoundingBox → List Float
six_of b = b.min.x ∷ b.min.y ∷ b.min.z ∷ b.max.x ∷ b.max.y ∷ b.max.z ∷ []

-- the box of six floats
unfoldable pub box_in : List Float → BoundingBox
box_in six = record { min = point_at six 0; max = point_at six 3 }
