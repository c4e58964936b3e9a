-- What is known of the vertices before they are moved. Definitions only.
use Rattle.std.specs.Prelude.{◌≡◌, Bool, true, List, ℕ, ◌*◌, ◌≤◌, length, take, Float}
use Rattle.std.specs.Float.Ieee.Scale.{finite}
use Rattle.slice.specs.Every.{every}
use Rattle.mesh_check.specs.State.{State, Sound}

-- n vertices in the slice; where `known` is true, they are finite
pub record KnownVertices (vs : List Float) (n : ℕ) (known : Bool) : Type 0 where
  pub within : 3 * n ≤ length vs
  pub finite : known ≡ true → every finite (take (3 * n) vs) ≡ true

-- a mesh in its slices; where `known` is true, its vertices are finite
pub record MovableMesh (s : State) (known : Bool) : Type 0 where
  pub sound : Sound s
  pub finite : known ≡ true → every finite (take (3 * s.mesh.vertices) s.vertices) ≡ true
