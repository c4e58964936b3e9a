-- docs/SCOPE.md, "Lists of calls": what holds of a mesh and of its record's box after any list of appends, flips and transforms, refused ones included.
-- The calls are those that the contracts of `append`, `flip` and `transform` cite. Assumes nothing.
-- Counts beyond the slices need no exception, since check 8 refuses then.
use Rattle.std.specs.Prelude.{◌≡◌, Bool, cond, List, [], ◌∷◌, ℕ, take, T, eqb}
use Rattle.std.proofs.Math.Path.{refl}
use Rattle.std.proofs.Common.{sym, subst}
use Rattle.std.proofs.Math.Bool.{true, false}
use Rattle.math_matrix.specs.declared.Mat4.{Mat4}
use Rattle.transform.specs.declared.TransformOp.{TransformOp}
use Rattle.transform.specs.Ops.{folded}
use Rattle.mesh_spec.specs.Mesh.{Mesh, append, flip}
use Rattle.mesh_spec.specs.Edits.{transform}
use Rattle.mesh_spec.specs.Measures.{bounding_box, same_box}
use Rattle.mesh_box_law.specs.Boxes.{box_same}
use Rattle.mesh_balance_spec.specs.Count.{EdgesBalance}
use Rattle.mesh_spec.specs.Closed.{NoneTwice, AllThere, Closed, Proper}
use Rattle.mesh_spec.specs.EdgeLaws.{append_edges, flip_edges}
use Rattle.mesh_spec.proofs.EdgeLawsHeld.{transform_edges}
use Rattle.mesh_spec.proofs.ClosedLawsHeld.{append_closed, flip_closed, transform_closed}
use Rattle.mesh_spec.proofs.ProperLawsHeld.{append_none_twice, flip_none_twice, transform_none_twice, append_all_there, flip_all_there, transform_all_there}
use Rattle.refusal.specs.Answer.{Accepted}
use Rattle.refusal.specs.Accepted.{is_accepted}
use Rattle.refusal.specs.Laws.{accepted_is}
use Rattle.mesh_check.specs.State.{State, mesh_of, stored, check_of, has_right_box, RightBox}
use Rattle.mesh_edit_law.specs.Outcome.{EditOutcome, edited}
use Rattle.mesh_check.specs.StateLaws.{mesh_stored}
use Rattle.mesh_check_append.specs.Append.{append_refusal}
use Rattle.mesh_check_transform.specs.Transform.{transformed, transform_refusal}
use Rattle.mesh_edit_law.specs.Edits.{append_of, flip_of, transform_of}

-- ---- the statement
-- one call: the mesh to append, or the operations, their count and the degrees mark
pub data Call : Type 0 where
  Append : State → Call
  Flip : Call
  Transform : List TransformOp → ℕ → Bool → Call

-- what the call answers, and the state that it leaves
abbrev pub outcome : Call → State → EditOutcome
outcome (Append o) s = append_of s o
outcome Flip s = flip_of s
outcome (Transform ops count degrees) s = transform_of ops count degrees s

-- the state that a list of calls leaves: each call begins with what the call before left
abbrev pub after : State → List Call → State
after s [] = s
after s (c ∷ cs) = after (outcome c s).state cs

-- a mesh to append has the property, unless its call is refused
abbrev pub Brings : (Mesh → Type 0) → Call → State → Type 0
Brings P (Append o) s = (append_of s o).refusal ≡ Accepted → P (mesh_of o)
Brings P Flip s = Unit
Brings P (Transform ops count degrees) s = Unit

-- so has each mesh that a list appends
abbrev pub AllBring : (Mesh → Type 0) → List Call → State → Type 0
AllBring P [] s = Unit
AllBring P (c ∷ cs) s = Brings P c s × AllBring P cs (outcome c s).state

-- a property of the start and of each mesh appended is one of the mesh after the list
abbrev pub Kept : (Mesh → Type 0) → State → List Call → Type 0
Kept P s calls = P (mesh_of s) → AllBring P calls s → P (mesh_of (after s calls))

-- docs/SCOPE.md, "Lists of calls": closed stays closed, and each of the three properties of a closed mesh stays by itself; a right box stays right
pub record KeptByLists : Type 0 where
  pub closed : (s : State) (calls : List Call) → Kept Closed s calls
  pub edges_balance : (s : State) (calls : List Call) → Kept (λ m. EdgesBalance m.triangles) s calls
  pub none_twice : (s : State) (calls : List Call) → Kept NoneTwice s calls
  pub all_there : (s : State) (calls : List Call) → Kept AllThere s calls
  -- so do the last two together, which sheets have as well
  pub proper : (s : State) (calls : List Call) → Kept Proper s calls
  -- the record's box is right after the list if it was at the start, whatever box a mesh to append claims
  pub right_box : (s : State) (calls : List Call) → RightBox s → RightBox (after s calls)

-- ---- the proof
-- the three edits of a mesh keep a property
pub record KeptByEdits (P : Mesh → Type 0) : Type 0 where
  pub appended : (m o : Mesh) → P m → P o → P (append m o)
  pub flipped : (m : Mesh) → P m → P (flip m)
  pub transformed : (a : Mat4) (m : Mesh) → P m → P (transform a m)

-- ---- the record's box
-- a stored mesh has its own box
pub right_stored : (m : Mesh) (s : State) → RightBox (stored m s)
unfolding stored bounding_box has_right_box
right_stored m s = subst (λ (x : Mesh). T (same_box (bounding_box m) (bounding_box x))) (sym (mesh_stored m s)) (box_same m.vertices)
