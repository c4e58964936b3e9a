-- The points of a slice of floats, and points that came out of `+ 0.0`. Definitions only.
use Rattle.std.specs.Prelude.{◌≡◌, Bool, not, ◌&&◌, List, ℕ, T, ltb, Float}
use Rattle.std.specs.Float.Ieee.{fits}
use Rattle.std.specs.Float.{binary64}
use Rattle.std.specs.Float.Ieee.Scale.{finite}
use Rattle.ieee.specs.Same.{canon}
use Rattle.math.specs.declared.Vec3.{Vec3}
use Rattle.mesh_spec.specs.Mesh.{same_point}
use Rattle.mesh_spec.specs.Slices.{vertex_at}

-- a 64-bit float that is finite and no −0.0, as `c + 0.0` in from_soup leaves a finite c
pub record CleanFloat (x : Float) : Type 0 where
  pub fit : T (fits binary64 x)
  pub finitely : T (finite x)
  pub canonical : canon x ≡ x

-- a point whose coordinates are such floats
pub record Clean (p : Vec3) : Type 0 where
  pub cx : CleanFloat p.x
  pub cy : CleanFloat p.y
  pub cz : CleanFloat p.z

-- vertex m is one from `base` below `count`, and equals p
unfoldable pub is_at : List Float → ℕ → ℕ → Vec3 → ℕ → Bool
unfolding same_point
is_at vs base count p m = not (ltb m base) && ltb m count && same_point (vertex_at vs m) p
