-- The soups of the shapes that have one part, as `parts_of` of the crate `solid_spec` has them: of boxes and spheres, of cylinders, and of outlines.
-- Definitions only.
use Rattle.std.specs.Prelude.{Bool, List, [], ℕ, Float}
use Rattle.shape.specs.declared.Shape.{Shape}
use Rattle.shape.specs.declared.Shape.TheVariants.{Box, MultiBox, Sphere, SphericalShell, Cylinder, CylindricalShell, Polygon, LinPoly, RotPoly, Wire}
use Rattle.shape.specs.declared.TessellationOptions.{TessellationOptions}
use Rattle.solid_spec.specs.Grid.{Soup}
use Rattle.solid_spec.specs.Boxes.{box_soup}
use Rattle.solid_spec.specs.Sphere.{sphere_soup, spherical_shell_soup}
use Rattle.solid_spec.specs.Cylinder.{cylinder_soup, cylindrical_shell_soup}
use Rattle.solid_spec.specs.Polygons.{polygon_soup, lin_poly_soup, rot_poly_soup}

-- a box, a sphere or a spherical shell
abbrev pub solid_soup : Bool → Shape → TessellationOptions → Soup
solid_soup cylindrical (Box start stop) o = box_soup cylindrical start stop o.segments
solid_soup cylindrical MultiBox o = []
solid_soup cylindrical (Sphere center radius) o = sphere_soup cylindrical center radius o.segments o.sphere_rings
solid_soup cylindrical (SphericalShell center radius width) o = spherical_shell_soup cylindrical center radius width o.segments o.sphere_rings
solid_soup cylindrical (Cylinder start stop radius) o = []
solid_soup cylindrical (CylindricalShell start stop radius width) o = []
solid_soup cylindrical (Polygon normal elevation) o = []
solid_soup cylindrical (LinPoly normal elevation length) o = []
solid_soup cylindrical (RotPoly normal elevation axis start stop) o = []
solid_soup cylindrical (Wire radius) o = []

-- a cylinder or a cylindrical shell
abbrev pub tube_soup : Bool → Shape → ℕ → Soup
tube_soup cylindrical (Box start stop) segments = []
tube_soup cylindrical MultiBox segments = []
tube_soup cylindrical (Sphere center radius) segments = []
tube_soup cylindrical (SphericalShell center radius width) segments = []
tube_soup cylindrical (Cylinder start stop radius) segments = cylinder_soup cylindrical start stop radius segments
tube_soup cylindrical (CylindricalShell start stop radius width) segments = cylindrical_shell_soup cylindrical start stop radius width segments
tube_soup cylindrical (Polygon normal elevation) segments = []
tube_soup cylindrical (LinPoly normal elevation length) segments = []
tube_soup cylindrical (RotPoly normal elevation axis start stop) segments = []
tube_soup cylindrical (Wire radius) segments = []

-- an outline with its lent list v
abbrev pub outline_soup : Shape → List Float → ℕ → Soup
outline_soup (Box start stop) v segments = []
outline_soup MultiBox v segments = []
outline_soup (Sphere center radius) v segments = []
outline_soup (SphericalShell center radius width) v segments = []
outline_soup (Cylinder start stop radius) v segments = []
outline_soup (CylindricalShell start stop radius width) v segments = []
outline_soup (Polygon normal elevation) v segments = polygon_soup normal v elevation
outline_soup (LinPoly normal elevation length) v segments = lin_poly_soup normal v elevation length
outline_soup (RotPoly normal elevation axis start stop) v segments = rot_poly_soup normal axis v start stop segments
outline_soup (Wire radius) v segments = []
