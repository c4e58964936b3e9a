-- A drawing, and docs/SCOPE.md's refusals 3, 4, 1 and 2 on it, in the order in which tessellation checks them.
use Rattle.std.specs.Prelude.{ℕ, ◌/◌, ◌%◌, Bool, true, false, not, ◌&&◌, ◌||◌, cond, Option, Some, None, List, [], ◌∷◌, length, take, ltb, eqb, Float}
use Rattle.std.specs.Float.Ieee.Scale.{finite}
use Rattle.math.specs.declared.Vec3.{Vec3}
use Rattle.math.specs.Vec.{v_finite}
use Rattle.refusal.specs.Answer.{Answer, Accepted, NotFinite, AngleTooLarge, TooManySegments, BadList}
use Rattle.transform.specs.declared.TransformOp.{TransformOp}
use Rattle.transform.specs.Angle.{within1000}
use Rattle.transform.specs.Checks.{too_many_ops, ops_finite, ops_angles_within}
use Rattle.slice.specs.Every.{every}
use Rattle.shape.specs.declared.Shape.{Shape}
use Rattle.shape.specs.declared.Shape.TheVariants.{Box, MultiBox, Sphere, SphericalShell, Cylinder, CylindricalShell, Polygon, LinPoly, RotPoly, Wire}
use Rattle.shape.specs.declared.Items.{Items}
use Rattle.shape.specs.declared.Items.TheVariants.{NoItems, Corners, Points, Boxes}
use Rattle.shape.specs.declared.CoordSystem.{CoordSystem}
use Rattle.shape.specs.declared.CoordSystem.TheVariants.{Cartesian, Cylindrical}
use Rattle.shape.specs.declared.TessellationOptions.{TessellationOptions}

-- ---- systems

-- Primitive::effective_cs: a primitive's own system, or the drawing's default
unfoldable pub effective_cs : Option CoordSystem → CoordSystem → CoordSystem
effective_cs None default = default
effective_cs (Some cs) default = cs

-- Primitive::shape_cs: the effective system, but for a multi-box, which is always taken in the default one
unfoldable pub shape_cs : Shape → Option CoordSystem → CoordSystem → CoordSystem
shape_cs (Box a b) own default = effective_cs own default
shape_cs MultiBox own default = default
shape_cs (Sphere c r) own default = effective_cs own default
shape_cs (SphericalShell c r w) own default = effective_cs own default
shape_cs (Cylinder a b r) own default = effective_cs own default
shape_cs (CylindricalShell a b r w) own default = effective_cs own default
shape_cs (Polygon n e) own default = effective_cs own default
shape_cs (LinPoly n e l) own default = effective_cs own default
shape_cs (RotPoly n e a s t) own default = effective_cs own default
shape_cs (Wire r) own default = effective_cs own default

-- whether points are taken as (ρ, α, z)
unfoldable pub cylindrical : CoordSystem → Bool
cylindrical Cartesian = false
cylindrical Cylindrical = true

-- ---- refusal 3

-- more than 1,024 segments or rings
unfoldable pub too_many_segments : TessellationOptions → Bool
too_many_segments o = ltb 1024 o.segments || ltb 1024 o.sphere_rings

-- ---- refusal 4

-- the list that is lent beside a shape: the corners of an outline, the points of a wire, the boxes of a multi-box, or none
unfoldable pub items_of : Shape → Items
items_of (Box a b) = NoItems
items_of MultiBox = Boxes
items_of (Sphere c r) = NoItems
items_of (SphericalShell c r w) = NoItems
items_of (Cylinder a b r) = NoItems
items_of (CylindricalShell a b r w) = NoItems
items_of (Polygon n e) = Corners
items_of (LinPoly n e l) = Corners
items_of (RotPoly n e a s t) = Corners
items_of (Wire r) = Points

-- n floats are not whole items of k floats, or are more than `most` items
unfoldable pub bad_items : ℕ → ℕ → ℕ → Bool
bad_items k most n = not (eqb (n % k) 0) || ltb most (n / k)

-- the list has n floats: a corner is 2 floats, and 512 are allowed; a wire point 3, and 256; a box 6, and 256. A shape without a list does not read one
unfoldable pub bad_list : Items → ℕ → Bool
bad_list NoItems n = false
bad_list Corners n = bad_items 2 512 n
bad_list Points n = bad_items 3 256 n
bad_list Boxes n = bad_items 6 256 n

-- ---- refusal 1

-- the floats that the shape reads
unfoldable pub list_of : Items → List Float → List Float
list_of NoItems list = []
list_of Corners list = list
list_of Points list = list
list_of Boxes list = list

-- every number of the shape itself is finite, those that tessellation does not use too
unfoldable pub shape_finite : Shape → Bool
shape_finite (Box a b) = v_finite a && v_finite b
shape_finite MultiBox = true
shape_finite (Sphere c r) = v_finite c && finite r
shape_finite (SphericalShell c r w) = v_finite c && finite r && finite w
shape_finite (Cylinder a b r) = v_finite a && v_finite b && finite r
shape_finite (CylindricalShell a b r w) = v_finite a && v_finite b && finite r && finite w
shape_finite (Polygon n e) = finite e
shape_finite (LinPoly n e l) = finite e && finite l
shape_finite (RotPoly n e a s t) = finite e && finite s && finite t
shape_finite (Wire r) = finite r

-- ---- refusal 2

-- an angle in radians does not exceed 1,000 in absolute value
abbrev pub angle_within : Float → Bool
angle_within x = within1000 (record { 0 = x })

-- the angle of a point taken as cylindrical
unfoldable pub point_within : Bool → Vec3 → Bool
point_within cyl p = not cyl || angle_within p.y

-- the angles of the shape's own points and a rotated outline's start and stop angle
unfoldable pub shape_within : Bool → Shape → Bool
shape_within cyl (Box a b) = point_within cyl a && point_within cyl b
shape_within cyl MultiBox = true
shape_within cyl (Sphere c r) = point_within cyl c
shape_within cyl (SphericalShell c r w) = point_within cyl c
shape_within cyl (Cylinder a b r) = point_within cyl a && point_within cyl b
shape_within cyl (CylindricalShell a b r w) = point_within cyl a && point_within cyl b
shape_within cyl (Polygon n e) = true
shape_within cyl (LinPoly n e l) = true
shape_within cyl (RotPoly n e a s t) = angle_within s && angle_within t
shape_within cyl (Wire r) = true

-- the angles of points in a list, three floats a point
unfoldable pub points_within : List Float → Bool
points_within [] = true
points_within (x ∷ []) = true
points_within (x ∷ y ∷ []) = true
points_within (x ∷ y ∷ z ∷ r) = angle_within y && points_within r

-- the angles of a shape's list: those of wire points and of both points of each box, where they are taken as cylindrical; corners have none
unfoldable pub list_within : Bool → Items → List Float → Bool
list_within cyl NoItems list = true
list_within cyl Corners list = true
list_within cyl Points list = not cyl || points_within list
list_within cyl Boxes list = not cyl || points_within list

-- ---- the refusals in their order

-- refusal 1 is due
unfoldable pub numbers_bad : Shape → List Float → List TransformOp → Bool
numbers_bad shape list ops = not (shape_finite shape && every finite (list_of (items_of shape) list) && ops_finite ops)

-- refusal 2 is due
unfoldable pub angles_bad : Bool → Shape → List Float → Bool → List TransformOp → Bool
angles_bad cyl shape list degrees ops =
    not (shape_within cyl shape && list_within cyl (items_of shape) list && ops_angles_within degrees ops)

-- 3, 4, 1, 2, in this order, on the shape, its list, its system, the options, and the first `count` operations
unfoldable pub drawing_refusal : Shape → List Float → Option CoordSystem → CoordSystem → TessellationOptions → List TransformOp → ℕ → Bool → Answer
drawing_refusal shape list own default options ops count degrees =
    cond (too_many_segments options) TooManySegments
    (cond (bad_list (items_of shape) (length list) || too_many_ops count) BadList
    (cond (numbers_bad shape list (take count ops)) NotFinite
    (cond (angles_bad (cylindrical (shape_cs shape own default)) shape list degrees (take count ops)) AngleTooLarge
    Accepted)))
