-- What the loops read and write: triples of a slice, three at a place. Definitions only.
use Rattle.std.specs.Prelude.{List, ◌++◌, map, ℕ, ◌+◌, ◌*◌, ◌≤◌, ◌<◌, length, take, drop, get_or, set, Float}
use Rattle.std.specs.Float.{nan}
use Rattle.math.specs.declared.Vec3.{Vec3}
use Rattle.math_matrix.specs.declared.Mat4.{Mat4}
use Rattle.math_matrix.specs.Mat.{transform_point}
use Rattle.mesh_balance_spec.specs.Soup.{Tri, map_tri}
use Rattle.mesh_spec.specs.Slices.{tri_of, vec_of, vertex_at}
use Rattle.mesh_balance_spec.specs.Buffer.{flat, tris}

-- the first n triples of a list, each replaced, and the rest as it was
unfoldable pub each_to : {P : Type 0} → (Tri P → Tri P) → ℕ → List P → List P
each_to g n l = flat (map g (tris (take (3 * n) l))) ++ drop (3 * n) l

-- the three numbers of triple i
abbrev pub triple_at : {P : Type 0} → List P → ℕ → P → Tri P
triple_at l i d = (get_or l (3 * i) d, get_or l (3 * i + 1) d, get_or l (3 * i + 2) d)

-- triple i replaced
abbrev pub put_triple : {P : Type 0} → List P → ℕ → Tri P → List P
put_triple l i t = set (set (set l (3 * i) t.0) (3 * i + 1) t.1) (3 * i + 2) t.2

-- vertex i replaced by p
abbrev pub put_vertex : List Float → ℕ → Vec3 → List Float
put_vertex vs i p = put_triple vs i (tri_of p)

-- the three floats of a vertex, after a matrix
abbrev pub moved_triple : Mat4 → Tri Float → Tri Float
moved_triple a t = tri_of (transform_point a (vec_of t))

-- the corners of triangle i
abbrev pub corners_at : List Float → List ℕ → ℕ → Tri Vec3
corners_at vs ts i = map_tri (vertex_at vs) (triple_at ts i 0)

-- the corners of the first k triangles
abbrev pub corners_of : List Float → List ℕ → ℕ → List (Tri Vec3)
corners_of vs ts k = map (map_tri (vertex_at vs)) (tris (take (3 * k) ts))

-- triangle i and its three vertices lie in the slices
pub record CornersWithin (vs : List Float) (ts : List ℕ) (i : ℕ) : Type 0 where
  pub triangle : 3 * i + 3 ≤ length ts
  pub first : 3 * get_or ts (3 * i) 0 + 3 ≤ length vs
  pub second : 3 * get_or ts (3 * i + 1) 0 + 3 ≤ length vs
  pub third : 3 * get_or ts (3 * i + 2) 0 + 3 ≤ length vs

-- the first k triangles and their vertices lie in the slices
pub record AllWithin (vs : List Float) (ts : List ℕ) (k : ℕ) : Type 0 where
  pub triangles : 3 * k ≤ length ts
  pub corners : (j : ℕ) → j < 3 * k → 3 * get_or ts j 0 + 3 ≤ length vs
