-- One turn of from_soup's loop, for points that came out of `+ 0.0`, and what its steps do to the slices. Definitions only.
use Rattle.std.specs.Prelude.{◌≡◌, true, cond, List, [], ◌∷◌, ◌++◌, ℕ, ◌+◌, ◌≤◌, length, Float}
use Rattle.math.specs.declared.Vec3.{Vec3}
use Rattle.mesh_balance_spec.specs.Soup.{Tri}
use Rattle.mesh_spec.specs.Mesh.{Mesh, first_sight, distinct}
use Rattle.weld.specs.declared.Welder.{Welder}
use Rattle.slice.specs.Every.{places_of}
use Rattle.weld.specs.Rep.{Held, held, row_of, Ready, Rep}
use Rattle.weld.specs.declared.Welding.{Welding}
use Rattle.weld.specs.Welding.{SameSlices, held_by}
use Rattle.weld_search.specs.Search.{with_vertex}

-- the mesh after a triangle was offered: it stays where its numbers differ
abbrev pub with_triangle : Mesh → Tri ℕ → Mesh
with_triangle S t = record { vertices = S.vertices; triangles = cond (distinct t) (S.triangles ++ (t ∷ [])) S.triangles }

-- one turn of from_soup's loop after `+ 0.0`
unfoldable pub weld_points : Mesh → Vec3 → Vec3 → Vec3 → Mesh
weld_points S a b c =
    let A = with_vertex S a in
    let B = with_vertex A b in
    let C = with_vertex B c in
    with_triangle C (first_sight S.vertices a, first_sight A.vertices b, first_sight B.vertices c)

-- a triangle was offered; where there is room, a, b, c are the numbers that the mesh says
pub record TriangleRuns (a b c : ℕ) (w : Welder) (ts : List ℕ) (r : Welder) (ts' : List ℕ) : Type 0 where
  pub base : r.base ≡ w.base
  pub count : r.count ≡ w.count
  pub places : r.places ≡ w.places
  pub ordered : r.ordered ≡ w.ordered
  pub row : row_of r ≡ row_of w
  pub finite : r.finite ≡ w.finite
  pub faces : r.faces ≤ places_of ts'
  pub sticky : r.room ≡ true → w.room ≡ true
  pub rep : (D S : Mesh) (vs : List Float) (ws : List ℕ) (t : Tri ℕ)
      → (w.room ≡ true → (a ≡ t.0 + length D.vertices) × (b ≡ t.1 + length D.vertices) × (c ≡ t.2 + length D.vertices))
      → Rep D S (held w vs ts ws) → Rep D (with_triangle S t) (held r vs ts' ws)

-- the three points of a triangle were welded
pub record PointsRun (a b c : Vec3) (h k : Held) : Type 0 where
  pub ready : Ready k
  pub vlong : length k.vertices ≡ length h.vertices
  pub tlong : length k.triangles ≡ length h.triangles
  pub wlong : length k.work ≡ length h.work
  pub finite : k.st.finite ≡ h.st.finite
  pub rep : (D S : Mesh) → Rep D S h → Rep D (weld_points S a b c) k

-- a triangle of the numbers a, b and c was offered: the vertices and the chains stay as they were
pub record WeldsNumbers (a b c : ℕ) (w r : Welding) : Type 0 where
  pub same : SameSlices w r
  pub vertices : r.vertices.now ≡ w.vertices.now
  pub work : r.work.now ≡ w.work.now
  pub tlong : length r.triangles.now ≡ length w.triangles.now
  pub runs : TriangleRuns a b c w.st w.triangles.now r.st r.triangles.now

-- the three points of a triangle were welded
pub record WeldsPoints (a b c : Vec3) (w r : Welding) : Type 0 where
  pub same : SameSlices w r
  pub runs : PointsRun a b c (held_by w) (held_by r)
