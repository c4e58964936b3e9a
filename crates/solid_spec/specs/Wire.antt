-- The parts of the case Wire of `tessellate` in src/tessellate.rs. Definitions only.
use Rattle.std.specs.Prelude.{List, [], ◌++◌, Bool, false, cond, ℕ, ◌+◌, ◌-◌, ◌/◌, length, Float}
use Rattle.std.specs.Float.Ieee.{lt}
use Rattle.ieee.specs.Number.{plus_zero}
use Rattle.math.specs.declared.Vec3.{Vec3}
use Rattle.solid_spec.specs.Grid.{Soup}
use Rattle.solid_spec.specs.Coords.{to_cartesian}
use Rattle.solid_spec.specs.Sphere.{sphere}
use Rattle.solid_spec.specs.Cylinder.{cylinder}
use Rattle.mesh_spec.specs.Slices.{vertex_at}
use Rattle.solid_spec.specs.Boxes.{parts}

-- point i of a wire's lent list, three floats a point, converted
unfoldable pub wire_point : Bool → List Float → ℕ → Vec3
wire_point cylindrical v i = to_cartesian cylindrical (vertex_at v i)

-- a tube for each two consecutive points, `pts.windows(2)`
unfoldable pub wire_tubes : Bool → List Float → Float → ℕ → List Soup
wire_tubes cylindrical v r segments =
    parts (length v / 3 - 1) (λ i. cylinder (wire_point cylindrical v i) (wire_point cylindrical v (i + 1)) plus_zero r segments)

-- a sphere at each inner point, `pts.iter().skip(1).take(pts.len().saturating_sub(2))`
unfoldable pub wire_joints : Bool → List Float → Float → ℕ → ℕ → List Soup
wire_joints cylindrical v r segments rings =
    parts (length v / 3 - 2) (λ i. sphere (wire_point cylindrical v (i + 1)) r segments rings false)

-- the case Wire: the tubes, then the spheres; nothing unless `r > 0.0`
unfoldable pub wire_parts : Bool → List Float → Float → ℕ → ℕ → List Soup
wire_parts cylindrical v r segments rings =
    cond (lt plus_zero r) (wire_tubes cylindrical v r segments ++ wire_joints cylindrical v r segments rings) []
