-- How the lent slices hold a mesh while it is welded, and what "this soup was welded" says. Definitions only; the public contracts cite them.
use Rattle.std.specs.Prelude.{◌≡◌, true, false, ◌&&◌, cond, List, ◌⊎◌, ℕ, ◌-◌, ◌*◌, ◌≤◌, ◌<◌, length, take, replicate, Float}
use Rattle.std.specs.Float.{binary64}
use Rattle.std.specs.Float.Ieee.{of_bits}
use Rattle.math.specs.declared.Vec3.{Vec3}
use Rattle.mesh_balance_spec.specs.Soup.{Tri}
use Rattle.mesh_balance_spec.specs.Buffer.{flat}
use Rattle.mesh_spec.specs.Mesh.{Mesh, no_mesh, append, weld_soup, every_finite}
use Rattle.mesh_spec.specs.Slices.{flat_v, vertex_at}
use Rattle.weld.specs.declared.Welder.{Welder}
use Rattle.slice.specs.Every.{places_of}
use Rattle.weld_hash.specs.Hash.{Distinct, Chained}
use Rattle.weld_order.specs.declared.Row.{Row}
use Rattle.weld_order.specs.Rows.{among}

-- the state and the three lent slices
pub record Held : Type 0 where
  pub st : Welder
  pub vertices : List Float
  pub triangles : List ℕ
  pub work : List ℕ

abbrev pub held : Welder → List Float → List ℕ → List ℕ → Held
held w vs ts ws = record { st = w; vertices = vs; triangles = ts; work = ws }

-- the row of the last vertex, where the vertices of this part came row by row
abbrev pub row_of : Welder → Row
row_of w = record { near = w.near; rising = w.rising }

-- with p after them as the last one, the vertices from base below count and p itself came row by row, the last row being r
pub record InRow (base count : ℕ) (vs : List Float) (p : Vec3) (r : Row) : Type 0 where
  pub has : among r p p ≡ true
  pub keeps : (m : ℕ) → base ≤ m → m < count → among r p (vertex_at vs m) ≡ true

-- where `ordered` says so, the vertices of this part came row by row
abbrev pub InRows : Welder → List Float → Type 0
InRows w vs = w.ordered ≡ true → (m : ℕ) → w.base ≤ m → m < w.count → among (row_of w) (vertex_at vs (w.count - 1)) (vertex_at vs m) ≡ true

-- so many vertices are in the chains: while they come row by row, those of this part are not
abbrev pub indexed : Welder → ℕ
indexed w = cond w.ordered w.base w.count

-- the vertices and the chains stand, and `places` counts the places for vertices
pub record Linked (w : Welder) (vs : List Float) (ws : List ℕ) : Type 0 where
  pub distinct : Distinct vs w.places w.base w.count
  pub chained : Chained vs ws w.places w.base (indexed w)
  pub places : w.places ≡ places_of vs
  pub rows : InRows w vs

-- what the code needs to be safe: nothing here speaks of the mesh
pub record Ready (h : Held) : Type 0 where
  pub linked : Linked h.st h.vertices h.work
  pub faces : h.st.faces ≤ places_of h.triangles

-- the fronts of the slices are the mesh
pub record Holds (M : Mesh) (h : Held) : Type 0 where
  pub vertices : flat_v M.vertices ≡ take (3 * h.st.count) h.vertices
  pub count : length M.vertices ≡ h.st.count
  pub triangles : flat M.triangles ≡ take (3 * h.st.faces) h.triangles
  pub faces : length M.triangles ≡ h.st.faces

-- docs/SCOPE.md, refusal 7: too few places for the vertices or the triangles of the mesh, as many places as count (`places_of`)
abbrev pub Over : Mesh → Held → Type 0
Over M h = (places_of h.vertices < length M.vertices) ⊎ (places_of h.triangles < length M.triangles)

-- D are the parts already appended, S is the part being welded; the slices hold D with S appended, or there was no room and that mesh does not fit
pub record Rep (D S : Mesh) (h : Held) : Type 0 where
  pub base : h.st.room ≡ true → h.st.base ≡ length D.vertices
  pub holds : h.st.room ≡ true → Holds (append D S) h
  pub over : h.st.room ≡ false → Over (append D S) h

-- from h to k the soup was welded. `finite` tells whether all points were finite; only then does k tell of the mesh.
pub record Runs (soup : List (Tri Vec3)) (h k : Held) : Type 0 where
  pub ready : Ready k
  pub vlong : length k.vertices ≡ length h.vertices
  pub tlong : length k.triangles ≡ length h.triangles
  pub wlong : length k.work ≡ length h.work
  pub finite : k.st.finite ≡ (h.st.finite && every_finite soup)
  pub rep : k.st.finite ≡ true → (D S : Mesh) → Rep D S h → Rep D (weld_soup S soup) k

-- the state in which nothing is welded yet
abbrev pub beginning : ℕ → Welder
beginning places = record {
  base = 0;
  count = 0;
  places = places;
  faces = 0;
  near = of_bits binary64 0;
  finite = true;
  room = true;
  ordered = false;
  rising = false;
}

-- nothing is welded yet, and no vertex is in a chain
pub record Begun (r : Welder) (vs : List Float) (ws : List ℕ) : Type 0 where
  pub answer : r ≡ beginning (places_of vs)
  pub work : ws ≡ replicate (length ws) 0
  pub ready : (ts : List ℕ) → Ready (held r vs ts ws)
  pub finite : r.finite ≡ true
  pub room : r.room ≡ true
  pub rep : (ts : List ℕ) → Rep no_mesh no_mesh (held r vs ts ws)

-- the state in which a new part begins
abbrev pub next_part : Welder → Welder
next_part w = record {
  base = w.count;
  count = w.count;
  places = w.places;
  faces = w.faces;
  near = of_bits binary64 0;
  finite = w.finite;
  room = w.room;
  ordered = false;
  rising = false;
}

-- the part so far is appended to those before it, and a new part begins
pub record Parted (w r : Welder) : Type 0 where
  pub answer : r ≡ next_part w
  pub ready : (vs : List Float) (ts ws : List ℕ) → Ready (held w vs ts ws) → Ready (held r vs ts ws)
  pub finite : r.finite ≡ w.finite
  pub room : r.room ≡ w.room
  pub rep : (D S : Mesh) (vs : List Float) (ts ws : List ℕ) → Rep D S (held w vs ts ws) → Rep (append D S) no_mesh (held r vs ts ws)
