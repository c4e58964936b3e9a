-- The case RotPoly of `tessellate` in src/tessellate.rs. Definitions only.
use Rattle.std.specs.Prelude.{Bool, true, false}
use Rattle.shape.specs.declared.Shape.{Shape}
use Rattle.shape.specs.declared.Shape.TheVariants.{Box, MultiBox, Sphere, SphericalShell, Cylinder, CylindricalShell, Polygon, LinPoly, RotPoly, Wire}

-- whether the shape is a rotated outline, the one case whose mesh is flipped where its signed volume is below 0
unfoldable pub is_rot_poly : Shape → Bool
is_rot_poly (Box start stop) = false
is_rot_poly MultiBox = false
is_rot_poly (Sphere center radius) = false
is_rot_poly (SphericalShell center radius width) = false
is_rot_poly (Cylinder start stop radius) = false
is_rot_poly (CylindricalShell start stop radius width) = false
is_rot_poly (Polygon normal elevation) = false
is_rot_poly (LinPoly normal elevation length) = false
is_rot_poly (RotPoly normal elevation axis start stop) = true
is_rot_poly (Wire radius) = false
