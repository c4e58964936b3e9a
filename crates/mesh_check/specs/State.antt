-- A mesh record with its two lent slices, the mesh that they hold, and the checks 8, 1 and 7 of docs/SCOPE.md, "Refusals"; 8 is asked of counts and
-- numbers first, and of the box after 1. Definitions only.
use Rattle.std.specs.Prelude.{Result, Ok, Err, Bool, not, ◌||◌, cond, List, ◌++◌, ℕ, ◌*◌, ◌≤◌, ◌<◌, length, take, drop, get_or, T, ltb, Float}
use Rattle.std.specs.Float.Ieee.Scale.{finite}
use Rattle.slice.specs.Every.{counted_places, places_of, every}
use Rattle.mesh_balance_spec.specs.Buffer.{flat, tris}
use Rattle.math.specs.declared.BoundingBox.{BoundingBox}
use Rattle.math.specs.Box.{empty_box}
use Rattle.mesh_spec.specs.Mesh.{Mesh}
use Rattle.mesh_spec.specs.Slices.{flat_v, points}
use Rattle.mesh_spec.specs.Measures.{bounding_box, same_box}
use Rattle.mesh_box.specs.ZeroBox.{zero_box}
use Rattle.refusal.specs.declared.Refusal.{Refusal}
use Rattle.refusal.specs.Answer.{Answer, Accepted, NotFinite, BadMesh}
use Rattle.refusal.specs.Accepted.{is_accepted}
use Rattle.mesh_check.specs.declared.TriMesh.{TriMesh}

-- a record: so many vertices and triangles, and a box
abbrev pub record_of : ℕ → ℕ → BoundingBox → TriMesh
record_of vertices triangles bounds = record { vertices = vertices; triangles = triangles; bounds = bounds }

-- the record of a mesh: its counts, and `bounding_box` of its vertices
abbrev pub record_for : Mesh → TriMesh
record_for m = record_of (length m.vertices) (length m.triangles) (bounding_box m)

-- the record without vertices and triangles, with the empty box
abbrev pub empty_record : TriMesh
empty_record = record_of 0 0 empty_box

-- the record and the slices as a call finds or leaves them
pub record State : Type 0 where
  pub mesh : TriMesh
  pub vertices : List Float
  pub triangles : List ℕ

-- the record after a call that makes or changes a mesh: the one that it answers, or where it is refused the one before
abbrev pub record_after : TriMesh → Result TriMesh Refusal → TriMesh
record_after before (Ok after) = after
record_after before (Err refusal) = before

-- the state of a record and two slices
abbrev pub state : TriMesh → List Float → List ℕ → State
state m vs ts = record { mesh = m; vertices = vs; triangles = ts }

-- the mesh: the counted vertices and the counted triangles
unfoldable pub mesh_of : State → Mesh
mesh_of s = record { vertices = points (take (3 * s.mesh.vertices) s.vertices); triangles = tris (take (3 * s.mesh.triangles) s.triangles) }

-- a mesh laid at the start of both slices: its record, and what stands beyond its counts as it was
unfoldable pub stored : Mesh → State → State
stored m s = record {
  mesh = record_for m;
  vertices = flat_v m.vertices ++ drop (3 * length m.vertices) s.vertices;
  triangles = flat m.triangles ++ drop (3 * length m.triangles) s.triangles;
}

-- 8, asked first: a count is above the whole places of its slice, of which at most 4,294,967,295 count, or a number in a triangle is not below the vertex
-- count
unfoldable pub bad_mesh : State → Bool
unfolding counted_places every
bad_mesh s =
    ltb (places_of s.vertices) s.mesh.vertices
    || ltb (places_of s.triangles) s.mesh.triangles
    || not (every (λ i. ltb i s.mesh.vertices) (take (3 * s.mesh.triangles) s.triangles))

-- 1: a coordinate of a counted vertex is not finite
unfoldable pub not_finite : State → Bool
unfolding every
not_finite s = not (every finite (take (3 * s.mesh.vertices) s.vertices))

-- whether the record's box is right: equal, as floats compare, to `bounding_box` of the counted vertices
unfoldable pub has_right_box : State → Bool
unfolding same_box
has_right_box s = same_box s.mesh.bounds (bounding_box (mesh_of s))

-- that it is
abbrev pub RightBox : State → Type 0
RightBox s = T (has_right_box s)

-- 8, asked directly after 1: the record has another box
unfoldable pub bad_box : State → Bool
unfolding has_right_box
bad_box s = not (has_right_box s)

-- 7: slices of nv floats and nt numbers have too few whole places for the vertices or the triangles of a mesh; at most 4,294,967,295 places count
unfoldable pub no_room : Mesh → ℕ → ℕ → Bool
no_room m nv nt = ltb (counted_places nv) (length m.vertices) || ltb (counted_places nt) (length m.triangles)

-- the counted places lie in the slices, and the numbers are below the vertex count
pub record Sound (s : State) : Type 0 where
  pub vertices : 3 * s.mesh.vertices ≤ length s.vertices
  pub triangles : 3 * s.mesh.triangles ≤ length s.triangles
  pub below : (i : ℕ) → i < 3 * s.mesh.triangles → get_or s.triangles i 0 < s.mesh.vertices

-- what `flip` and the measures check: 8, then 1, then 8 for the box
unfoldable pub check_of : State → Answer
check_of s = cond (bad_mesh s) BadMesh (cond (not_finite s) NotFinite (cond (bad_box s) BadMesh Accepted))

-- a refusal or none, and a box
pub record Boxed : Type 0 where
  pub refusal : Answer
  pub bounds : BoundingBox

-- a refusal or none, with a box where it is none, and the box of zeros where it is one
unfoldable pub boxed_with : Answer → BoundingBox → Boxed
unfolding zero_box
boxed_with q b = record { refusal = q; bounds = cond (is_accepted q) b zero_box }
