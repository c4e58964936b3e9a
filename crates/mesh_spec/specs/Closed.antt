-- docs/SCOPE.md, "Words of demand 3": closed meshes. Definitions only.
use Rattle.std.specs.Prelude.{Bool, true, false, ◌&&◌, List, [], ◌∷◌, ℕ, length, T, ltb}
use Rattle.mesh_balance_spec.specs.Soup.{Tri}
use Rattle.mesh_balance_spec.specs.Count.{EdgesBalance}
use Rattle.mesh_spec.specs.Mesh.{Mesh, distinct}

-- every triangle passes a test
unfoldable pub all_of : (Tri ℕ → Bool) → List (Tri ℕ) → Bool
all_of k [] = true
all_of k (t ∷ ts) = k t && all_of k ts

-- all three numbers are below n
abbrev pub below : ℕ → Tri ℕ → Bool
below n t = ltb t.0 n && ltb t.1 n && ltb t.2 n

-- no triangle names one vertex twice
abbrev pub NoneTwice : Mesh → Type 0
NoneTwice m = T (all_of distinct m.triangles)

-- every vertex that a triangle names is there: its number is below the vertex count
abbrev pub AllThere : Mesh → Type 0
AllThere m = T (all_of (below (length m.vertices)) m.triangles)

-- a closed mesh: what demand 3 says of the solids of its list
pub record Closed (m : Mesh) : Type 0 where
  -- each directed edge is used exactly as often as its reverse
  pub edges_balance : EdgesBalance m.triangles
  pub none_twice : NoneTwice m
  pub all_there : AllThere m

-- what demand 3 says of every mesh that a call accepts, open ones too
pub record Proper (m : Mesh) : Type 0 where
  pub none_twice : NoneTwice m
  pub all_there : AllThere m
