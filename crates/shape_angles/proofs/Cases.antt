-- The arms of several cases in the matches on a shape and on its list: what is known there is that a tag is one of several. Assumes nothing.
use mathlib.Core.Path.{◌≡◌, refl}
use mathlib.Core.Bool.{Bool, true, false}
use mathlib.Core.List.{List, [], ◌∷◌}
use types.Run.{OneOf, miss}
use denote.Enum.Declared.{tag_of}
use lib.Ieee.{Float}
use Rattle.shape.specs.contracts.Items as ofItems
use Rattle.shape.proofs.Tags.{tag}
use Rattle.shape.specs.declared.Items.{Items}
use Rattle.shape.specs.declared.Items.TheVariants.{NoItems, Corners, Points, Boxes}
use Rattle.shape.specs.declared.Shape.{Shape}
use Rattle.shape.specs.declared.Shape.TheVariants.{Box, MultiBox, Sphere, SphericalShell, Cylinder, CylindricalShell, Polygon, LinPoly, RotPoly, Wire}
use Rattle.shape.specs.Drawing.{shape_within, points_within, list_within}

-- the list is one of points or of boxes, in the cylindrical system or not
pub cylindrical_list : (cyl : Bool) (i : Items) (list : List Float) {b : Bool} → OneOf (2 ∷ 3 ∷ []) (tag_of ofItems.the_type i) → cyl ≡ true → b ≡ points_within list
    → b ≡ list_within cyl i list
unfolding list_within
cylindrical_list cyl NoItems list k t e = absurd (miss (2 ∷ 3 ∷ []) 0 tt k)
cylindrical_list cyl Corners list k t e = absurd (miss (2 ∷ 3 ∷ []) 1 tt k)
cylindrical_list cyl Points list k t e = rw t e
cylindrical_list cyl Boxes list k t e = rw t e

pub cartesian_list : (cyl : Bool) (i : Items) (list : List Float) → cyl ≡ false → true ≡ list_within cyl i list
unfolding list_within
cartesian_list cyl NoItems list t = refl
cartesian_list cyl Corners list t = refl
cartesian_list cyl Points list t = rw t
cartesian_list cyl Boxes list t = rw t

-- the shape has no list, or an outline's
pub no_angle_list : (cyl : Bool) (i : Items) (list : List Float) → OneOf (0 ∷ 1 ∷ []) (tag_of ofItems.the_type i) → true ≡ list_within cyl i list
unfolding list_within
no_angle_list cyl NoItems list k = refl
no_angle_list cyl Corners list k = refl
no_angle_list cyl Points list k = absurd (miss (0 ∷ 1 ∷ []) 2 tt k)
no_angle_list cyl Boxes list k = absurd (miss (0 ∷ 1 ∷ []) 3 tt k)

-- the shape has no point and no angle of its own
pub no_angle_shape : (cyl : Bool) (s : Shape) → OneOf (1 ∷ 6 ∷ 7 ∷ 9 ∷ []) (tag s) → true ≡ shape_within cyl s
unfolding shape_within
no_angle_shape cyl (Box start stop) k = absurd (miss (1 ∷ 6 ∷ 7 ∷ 9 ∷ []) 0 tt k)
no_angle_shape cyl MultiBox k = refl
no_angle_shape cyl (Sphere center radius) k = absurd (miss (1 ∷ 6 ∷ 7 ∷ 9 ∷ []) 2 tt k)
no_angle_shape cyl (SphericalShell center radius width) k = absurd (miss (1 ∷ 6 ∷ 7 ∷ 9 ∷ []) 3 tt k)
no_angle_shape cyl (Cylinder start stop radius) k = absurd (miss (1 ∷ 6 ∷ 7 ∷ 9 ∷ []) 4 tt k)
no_angle_shape cyl (CylindricalShell start stop radius width) k = absurd (miss (1 ∷ 6 ∷ 7 ∷ 9 ∷ []) 5 tt k)
no_angle_shape cyl (Polygon normal elevation) k = refl
no_angle_shape cyl (LinPoly normal elevation length) k = refl
no_angle_shape cyl (RotPoly normal elevation axis start stop) k = absurd (miss (1 ∷ 6 ∷ 7 ∷ 9 ∷ []) 8 tt k)
no_angle_shape cyl (Wire radius) k = refl
