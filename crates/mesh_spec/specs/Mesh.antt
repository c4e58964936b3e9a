-- TriMesh of src/tessellate.rs: vertices and triangles, `from_soup`, `append`, `flip`. Definitions only.
use Rattle.std.specs.Prelude.{Bool, true, false, not, ◌&&◌, cond, List, [], ◌∷◌, ◌++◌, map, ℕ, zero, suc, ◌+◌, length, eqb, Float}
use Rattle.std.specs.Float.{binary64}
use Rattle.std.specs.Float.Ieee.{add, eq, of_bits}
use Rattle.math.specs.declared.Vec3.{Vec3}
use Rattle.math.specs.Vec.{v_finite}
use Rattle.mesh_balance_spec.specs.Soup.{Tri, map_tri, flip_tri}

-- struct TriMesh: the vertices, and the triangles as triples of vertex numbers
pub record Mesh : Type 0 where
  pub vertices : List Vec3
  pub triangles : List (Tri ℕ)

-- TriMesh::new: no vertices, no triangles
abbrev pub no_mesh : Mesh
no_mesh = record { vertices = []; triangles = [] }

-- `v.0.map(|c| c + 0.0)` in from_soup: no coordinate is −0.0
unfoldable pub plus_zero_v : Vec3 → Vec3
plus_zero_v p = record {
  x = add binary64 p.x (of_bits binary64 0);
  y = add binary64 p.y (of_bits binary64 0);
  z = add binary64 p.z (of_bits binary64 0);
}

-- equal coordinates, as floats compare. In welding: after + 0.0, finite floats are equal exactly where their bits are, which is the Rust's key.
unfoldable pub same_point : Vec3 → Vec3 → Bool
same_point p q = eq p.x q.x && eq p.y q.y && eq p.z q.z

-- the number of the first of the vertices that equals p; the number of vertices where none does
unfoldable pub first_sight : List Vec3 → Vec3 → ℕ
unfolding same_point
first_sight [] p = 0
first_sight (v ∷ vs) p = cond (same_point v p) 0 (suc (first_sight vs p))

-- the vertices after p was looked up: p is pushed where no vertex equals it (`or_insert_with`)
unfoldable pub with_point : List Vec3 → Vec3 → List Vec3
unfolding first_sight
with_point vs p = cond (eqb (first_sight vs p) (length vs)) (vs ++ (p ∷ [])) vs

-- three different numbers
abbrev pub distinct : Tri ℕ → Bool
distinct t = not (eqb t.0 t.1) && not (eqb t.1 t.2) && not (eqb t.0 t.2)

-- one turn of from_soup's loop: the three points get numbers, and the triangle stays where the numbers differ
unfoldable pub weld_triangle : Mesh → Tri Vec3 → Mesh
unfolding with_point plus_zero_v
weld_triangle m t =
    let a = plus_zero_v t.0 in
    let b = plus_zero_v t.1 in
    let c = plus_zero_v t.2 in
    let va = with_point m.vertices a in
    let vb = with_point va b in
    let vc = with_point vb c in
    let ids : Tri ℕ = (first_sight m.vertices a, first_sight va b, first_sight vb c) in
    record { vertices = vc; triangles = cond (distinct ids) (m.triangles ++ (ids ∷ [])) m.triangles }

-- from_soup's loop, from a mesh
unfoldable pub weld_soup : Mesh → List (Tri Vec3) → Mesh
unfolding weld_triangle
weld_soup m [] = m
weld_soup m (t ∷ ts) = weld_soup (weld_triangle m t) ts

-- TriMesh::from_soup
unfoldable pub from_soup : List (Tri Vec3) → Mesh
unfolding weld_soup
from_soup soup = weld_soup no_mesh soup

-- `Vec3::is_finite` of every point of a soup
unfoldable pub every_finite : List (Tri Vec3) → Bool
every_finite [] = true
every_finite (t ∷ ts) = v_finite t.0 && v_finite t.1 && v_finite t.2 && every_finite ts

-- TriMesh::append: the other's vertices follow, and its numbers go up by the number of vertices before
unfoldable pub append : Mesh → Mesh → Mesh
append m o = record {
  vertices = m.vertices ++ o.vertices;
  triangles = m.triangles ++ map (map_tri (λ i. i + length m.vertices)) o.triangles;
}

-- TriMesh::flip: `t.swap(1, 2)` for every triangle
unfoldable pub flip : Mesh → Mesh
flip m = record { vertices = m.vertices; triangles = map flip_tri m.triangles }

-- `out.append(&t.finish())` for each part in turn
unfoldable pub append_parts : Mesh → List (List (Tri Vec3)) → Mesh
unfolding from_soup append
append_parts m [] = m
append_parts m (p ∷ ps) = append_parts (append m (from_soup p)) ps

-- the mesh of a shape's parts, several for a multi-box or a wire and one for any other shape: each is welded by itself and appended
unfoldable pub from_parts : List (List (Tri Vec3)) → Mesh
unfolding append_parts
from_parts parts = append_parts no_mesh parts
