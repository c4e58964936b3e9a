-- The floats of a shape and of a list that a program holds are floats of binary64: what owning them tells. Assumes nothing.
use mathlib.Core.List.{List}
use lib.Ieee.{Float}
use mir.Val.{Val}
use denote.Floats.{passes}
use denote.Laws.{Is}
use denote.Struct.Declared as Struct
use denote.Enum.Declared as Enum
use Rattle.math.specs.declared.Vec3.{Vec3}
use Rattle.math.specs.contracts.Vec3 as vec3
use Rattle.shape.specs.declared.Shape.{Shape}
use Rattle.shape.specs.declared.Shape.TheVariants.{Box, MultiBox, Sphere, SphericalShell, Cylinder, CylindricalShell, Polygon, LinPoly, RotPoly, Wire}
use Rattle.shape.specs.contracts.Shape as shape
use Rattle.solid_spec.specs.Fits.{FitsV, FitsAll}
use Rattle.tessellate_law.specs.Words.{FitsSolid}

point : (p : Vec3) (vs : List Val) → Is (Struct.row vec3.the_type) p vs → FitsV p
point p vs h = record { x = passes _ h.1.1.0.1; y = passes _ h.1.1.1.0.1; z = passes _ h.1.1.1.1.0.1 }

-- h.1.1.1.1 has what owning the fields of the shape's case tells, nested to the right
pub solid_fits : (s : Shape) (v : List Float) (vs : List Val) → Is (Enum.row shape.the_type) s vs → FitsAll v → FitsSolid s v
solid_fits (Box a b) v vs h f = let g = h.1.1.1.1 in (point a _ g.0, point b _ g.1.0)
solid_fits MultiBox v vs h f = f
solid_fits (Sphere c r) v vs h f = point c _ h.1.1.1.1.0
solid_fits (SphericalShell c r w) v vs h f = point c _ h.1.1.1.1.0
solid_fits (Wire r) v vs h f = f
solid_fits (Cylinder a b r) v vs h f = tt
solid_fits (CylindricalShell a b r w) v vs h f = tt
solid_fits (Polygon n e) v vs h f = tt
solid_fits (LinPoly n e l) v vs h f = tt
solid_fits (RotPoly n e a s t) v vs h f = tt
