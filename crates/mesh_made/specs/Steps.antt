-- What the steps of a call that makes a mesh say: what was made before its end, what the welder tells, and what the end leaves. Definitions only.
use Rattle.std.specs.Prelude.{Result, Ok, Err, ◌≡◌, true, false, not, cond, List, ℕ, ◌*◌, take, Float}
use Rattle.std.specs.Float.{binary64}
use Rattle.std.specs.Float.Ieee.{of_bits}
use Rattle.refusal.specs.declared.Refusal.{Refusal}
use Rattle.refusal.specs.declared.Refusal.TheVariants as R
use Rattle.refusal.specs.Answer.{Answer, Accepted, PointNotFinite, NoRoom, answer_of}
use Rattle.refusal.specs.Accepted.{is_accepted}
use Rattle.slice.specs.Cleared.{cleared_from}
use Rattle.mesh_spec.specs.Mesh.{Mesh, from_parts}
use Rattle.mesh_spec.specs.Parts.{Soup, parts_finite}
use Rattle.mesh_spec.specs.Slices.{points}
use Rattle.mesh_spec.specs.Measures.{box_of}
use Rattle.mesh_check.specs.declared.TriMesh.{TriMesh}
use Rattle.mesh_check.specs.State.{record_of, empty_record, state, stored, no_room}
use Rattle.weld.specs.declared.Welder.{Welder}
use Rattle.mesh_made.specs.Made.{Lent, record_made}

-- what a call has made before its end: the refusal q with the empty record; or no refusal, and the mesh m lies at the start of the slices
pub record Makes (q : Answer) (m : Mesh) (r : Result TriMesh Refusal) (vs : List Float) (ts : List ℕ) : Type 0 where
  pub refusal : answer_of r ≡ q
  pub refused : is_accepted q ≡ false → record_made r ≡ empty_record
  pub holds : is_accepted q ≡ true → state (record_made r) vs ts ≡ stored m (state (record_made r) vs ts)

-- 5 over the points of the parts, then 7 over their mesh
unfoldable pub parts_refusal : List Soup → Lent → Answer
parts_refusal parts n =
    cond (not (parts_finite parts)) PointNotFinite
    (cond (no_room (from_parts parts) n.vertices n.triangles) NoRoom
    Accepted)

-- the record of the welded mesh: the welder's counts, and the box of the vertices at the start of the slice
abbrev pub welded_record : Welder → List Float → TriMesh
welded_record w vs = record_of w.count w.faces (box_of (points (take (3 * w.count) vs)))

-- 5 and 7 as the welder's state tells them, or its mesh
abbrev pub judged : Welder → List Float → Result TriMesh Refusal
judged w vs = cond w.finite (cond w.room (Ok (welded_record w vs)) (Err R.NoRoom)) (Err R.PointNotFinite)

-- the counted places stay, zeros stand after them and in the work slice
pub record Keeps (m : TriMesh) (vs : List Float) (ts ws : List ℕ) (vs' : List Float) (ts' ws' : List ℕ) : Type 0 where
  pub vertices : vs' ≡ cleared_from (of_bits binary64 0) (3 * m.vertices) vs
  pub triangles : ts' ≡ cleared_from 0 (3 * m.triangles) ts
  pub work : ws' ≡ cleared_from 0 0 ws

-- the end of the call: the answer is what was made, and its counted places stay
pub record Ends (made : Result TriMesh Refusal) (vs : List Float) (ts ws : List ℕ) (r : Result TriMesh Refusal) (vs' : List Float) (ts' ws' : List ℕ) : Type 0 where
  pub answer : r ≡ made
  pub keeps : Keeps (record_made made) vs ts ws vs' ts' ws'
