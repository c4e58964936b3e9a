-- Lists of calls by hand: a tetrahedron is appended to an empty mesh, the mesh is flipped, and a sheet finds no room; boxes that are claimed. All vertices
-- are (0, 0, 0), so the right box is the box of zeros. Assumes nothing.
use Rattle.std.specs.Prelude.{◌≡◌, refl, false, List, [], ◌∷◌, map, ℕ, replicate}
use Rattle.std.proofs.Common.{sym, ap, ◌∙◌, arith}
use Rattle.std.specs.Float.Ieee.{add, neg, of_bits, eq, lt, is_nan}
use Rattle.ieee.specs.Number.{plus_zero, minimum, maximum}
use Rattle.slice.specs.Every.{counted_places, every}
use Rattle.math.specs.declared.Vec3.{Vec3}
use Rattle.math.specs.declared.BoundingBox.{BoundingBox}
use Rattle.math.specs.Vec.{new, v_min, v_max}
use Rattle.math.specs.Box.{empty_box, include}
use Rattle.transform.specs.Checks.{ops_finite, ops_angles_within}
use Rattle.mesh_balance_spec.specs.Soup.{flip_tri}
use Rattle.mesh_balance_spec.specs.Buffer.{flat}
use Rattle.mesh_balance_spec.specs.Examples.{tetrahedron}
use Rattle.mesh_spec.specs.Mesh.{append, flip, plus_zero_v, same_point}
use Rattle.mesh_spec.specs.Measures.{including, plus_zero_box, box_of, bounding_box, same_box}
use Rattle.mesh_spec.specs.Closed.{Closed}
use Rattle.mesh_spec.specs.ClosedLaws.{no_mesh_closed}
use Rattle.mesh_spec.specs.ClosedExamples.{tetrahedron_closed}
use Rattle.mesh_box.specs.ZeroBox.{zero_box}
use Rattle.refusal.specs.Answer.{Accepted, NoRoom, BadMesh}
use Rattle.refusal.specs.Number.{number_of}
use Rattle.mesh_check.specs.State.{record_of, empty_record, State, state, mesh_of, stored, bad_mesh, not_finite, has_right_box, bad_box, no_room, RightBox, check_of}
use Rattle.mesh_check_append.specs.Append.{append_refusal}
use Rattle.mesh_check_transform.specs.Transform.{transform_refusal}
use Rattle.mesh_edit_law.specs.Outcome.{edited}
use Rattle.mesh_edit_law.specs.Edits.{append_of, flip_of, transform_of}
use Rattle.mesh_edit_law.specs.Lists.{Call, Append, Flip, Transform, after, Brings, AllBring}

-- after, with what it takes to compute it
unfoldable computed : State → List Call → State
unfolding append_of flip_of transform_of edited append_refusal transform_refusal ops_finite ops_angles_within check_of bad_mesh not_finite has_right_box bad_box no_room
    counted_places every mesh_of stored append flip bounding_box box_of including include empty_box plus_zero_box plus_zero_v same_box same_point v_min v_max minimum
    maximum is_nan lt eq neg add of_bits zero_box
computed s calls = after s calls

-- places for four vertices and four triangles, none of them counted
abbrev pub start : State
start = state empty_record (replicate 12 plus_zero) (replicate 12 0)

-- a tetrahedron, and one triangle
abbrev whole : State
whole = state (record_of 4 4 zero_box) (replicate 12 plus_zero) (flat tetrahedron)

abbrev pub sheet : State
sheet = state (record_of 3 1 zero_box) (replicate 9 plus_zero) (0 ∷ 1 ∷ 2 ∷ [])

abbrev pub calls : List Call
calls = Append whole ∷ Flip ∷ Append sheet ∷ []

-- the first two calls leave the tetrahedron turned, and the third changes nothing
pub after_calls : after start calls ≡ state (record_of 4 4 zero_box) (replicate 12 plus_zero) (flat (map flip_tri tetrahedron))
unfolding computed
after_calls = refl

-- there is room for the sheet at the start, and none after the first two calls
pub sheet_accepted : (append_of start sheet).refusal ≡ Accepted
unfolding computed
sheet_accepted = refl

pub sheet_refused : (append_of (after start (Append whole ∷ Flip ∷ [])) sheet).refusal ≡ NoRoom
unfolding computed
sheet_refused = refl

pub refused : NoRoom ≡ Accepted → ⊥
refused e = let z : ◌≡◌ {A = ℕ} 7 0 = ap number_of e in omega arith

pub whole_closed : Closed (mesh_of whole)
unfolding mesh_of
whole_closed = tetrahedron_closed

pub start_closed : Closed (mesh_of start)
unfolding mesh_of
start_closed = no_mesh_closed

-- ---- the record's box
pub start_right : RightBox start
unfolding computed
start_right = tt

-- the sheet, with the box of no vertices claimed
abbrev wrong : State
wrong = state (record_of 3 1 empty_box) sheet.vertices sheet.triangles

-- there is room for it at the start; it is refused, and the state stays as it was
pub wrong_refused : (append_of start wrong).refusal ≡ BadMesh
unfolding computed
wrong_refused = refl

pub wrong_changes_nothing : after start (Append wrong ∷ []) ≡ start
unfolding computed
wrong_changes_nothing = refl

-- nor does a refused flip correct a wrong box
pub wrong_stays_wrong : after wrong (Flip ∷ []) ≡ wrong
unfolding computed
wrong_stays_wrong = refl

-- the tetrahedron, with −0.0 claimed for every bound: a right box
abbrev minus_zeros : Vec3
minus_zeros = new (neg plus_zero) (neg plus_zero) (neg plus_zero)

abbrev minus : State
minus = state (record_of 4 4 (record { min = minus_zeros; max = minus_zeros })) whole.vertices whole.triangles

pub minus_right : RightBox minus
unfolding computed
minus_right = tt

-- a flip leaves the bits of `bounding_box`: +0.0
pub minus_flipped : after minus (Flip ∷ []) ≡ state (record_of 4 4 zero_box) whole.vertices (flat (map flip_tri tetrahedron))
unfolding computed
minus_flipped = refl

-- a transform without operations leaves the record as it was
pub minus_not_moved : after minus (Transform [] 0 false ∷ []) ≡ minus
unfolding computed
minus_not_moved = refl
