-- How a mesh lies in lent slices (docs/SCOPE.md, "Lent memory"): three floats a vertex. Triangles are `flat` and `tris` of mesh_balance_spec.
-- Definitions only.
use Rattle.std.specs.Prelude.{List, [], ◌∷◌, ◌++◌, ℕ, ◌+◌, ◌*◌, get_or, Float}
use Rattle.std.specs.Float.{nan}
use Rattle.math.specs.declared.Vec3.{Vec3}
use Rattle.mesh_balance_spec.specs.Soup.{Tri}

-- the three floats of a vertex
abbrev pub coords : Vec3 → List Float
coords p = p.x ∷ p.y ∷ p.z ∷ []

-- the floats of the vertices, one vertex after the other
abbrev pub flat_v : List Vec3 → List Float
flat_v [] = []
flat_v (p ∷ ps) = coords p ++ flat_v ps

-- the vertices in a list of floats; a broken last one is none
abbrev pub points : List Float → List Vec3
points [] = []
points (x ∷ []) = []
points (x ∷ y ∷ []) = []
points (x ∷ y ∷ z ∷ r) = record { x = x; y = y; z = z } ∷ points r

-- a vertex as a triple of floats, and back
abbrev pub tri_of : Vec3 → Tri Float
tri_of p = (p.x, p.y, p.z)

abbrev pub vec_of : Tri Float → Vec3
vec_of t = record { x = t.0; y = t.1; z = t.2 }

-- vertex m of a slice
abbrev pub vertex_at : List Float → ℕ → Vec3
vertex_at vs m = record { x = get_or vs (3 * m) nan; y = get_or vs (3 * m + 1) nan; z = get_or vs (3 * m + 2) nan }
