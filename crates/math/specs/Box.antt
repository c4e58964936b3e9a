-- Boxes along the axes, as src/math.rs has them in `impl BoundingBox`; `union` is without its tests for empty boxes.
use Rattle.std.specs.Prelude.{true, false}
use Rattle.std.specs.Float.{inf}
use Rattle.math.specs.declared.Vec3.{Vec3}
use Rattle.math.specs.declared.BoundingBox.{BoundingBox}
use Rattle.math.specs.Vec.{new, v_min, v_max}

-- `BoundingBox::EMPTY`
unfoldable pub empty_box : BoundingBox
empty_box = record { min = new (inf false) (inf false) (inf false); max = new (inf true) (inf true) (inf true) }

-- `BoundingBox::include`
unfoldable pub include : BoundingBox → Vec3 → BoundingBox
include b p = record { min = v_min b.min p; max = v_max b.max p }

-- `BoundingBox::union` of two boxes neither of which is empty: the lesser of each two least bounds, the greater of each two greatest. The infinite bounds of
-- `empty_box` give way to any other, so it is the other box where one is `empty_box` and no bound is a NaN.
unfoldable pub union : BoundingBox → BoundingBox → BoundingBox
union a b = record { min = v_min a.min b.min; max = v_max a.max b.max }
