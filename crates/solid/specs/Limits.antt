-- docs/SCOPE.md's bounds on a drawing, as the code of the solids rests on them. Definitions only.
use Rattle.std.specs.Prelude.{List, ℕ, ◌≤◌, Float}
use lib.ListN.{length}
use Rattle.shape.specs.declared.Shape.{Shape}
use Rattle.shape.specs.declared.Shape.TheVariants.{Box, MultiBox, Sphere, SphericalShell, Cylinder, CylindricalShell, Polygon, LinPoly, RotPoly, Wire}
use Rattle.shape.specs.declared.TessellationOptions.{TessellationOptions}

-- docs/SCOPE.md's bounds on segments and rings, which the local arrays rest on
pub record FewSegments (o : TessellationOptions) : Type 0 where
  pub segments : o.segments ≤ 1024
  pub rings : o.sphere_rings ≤ 1024

-- docs/SCOPE.md, refusal 4: at most 512 corners
abbrev pub Listed : Shape → List Float → Type 0
Listed (Polygon normal elevation) v = lib.ListN.length v ≤ 1024
Listed (LinPoly normal elevation length) v = lib.ListN.length v ≤ 1024
Listed (RotPoly normal elevation axis start stop) v = lib.ListN.length v ≤ 1024
Listed (Box start stop) v = Unit
Listed MultiBox v = Unit
Listed (Sphere center radius) v = Unit
Listed (SphericalShell center radius width) v = Unit
Listed (Cylinder start stop radius) v = Unit
Listed (CylindricalShell start stop radius width) v = Unit
Listed (Wire radius) v = Unit
