-- docs/SCOPE.md, "Lists of calls": what holds of a mesh and of its record's box after any list of appends, flips and transforms, refused ones included.
-- The calls are those that the contracts of `append`, `flip` and `transform` cite. Assumes nothing.
-- Counts beyond the slices need no exception, since check 8 refuses then.
use Rattle.std.proofs.Common.{[]}
use Rattle.std.specs.Prelude.{◌≡◌, Bool, cond, List, ◌∷◌, ℕ, take, eqb}
use Rattle.std.proofs.Math.Path.{refl}
use Rattle.std.proofs.Common.{sym, subst}
use Rattle.std.proofs.Math.Bool.{true, false}
use Rattle.transform.specs.declared.TransformOp.{TransformOp}
use Rattle.transform.specs.Ops.{folded}
use Rattle.mesh_spec.specs.Mesh.{Mesh, append, flip}
use Rattle.mesh_spec.specs.Closed.{NoneTwice, AllThere}
use Rattle.mesh_spec.proofs.ProperLawsHeld.{append_none_twice, flip_none_twice, transform_none_twice, append_all_there, flip_all_there, transform_all_there}
use Rattle.refusal.specs.Answer.{Answer, Accepted}
use Rattle.refusal.specs.Accepted.{is_accepted}
use Rattle.refusal.specs.Laws.{accepted_is}
use Rattle.mesh_check.specs.State.{State, mesh_of, stored, check_of, RightBox}
use Rattle.mesh_edit_law.specs.Outcome.{edited}
use Rattle.mesh_check.specs.StateLaws.{mesh_stored}
use Rattle.mesh_check_append.specs.Append.{append_refusal}
use Rattle.mesh_check_transform.specs.Transform.{transformed, transform_refusal}
use Rattle.mesh_edit_law.specs.Edits.{append_of, flip_of, transform_of}
use Rattle.mesh_edit_law.specs.Lists.{Call, Append, Flip, Transform, AllBring, Brings, Kept, KeptByEdits, after, outcome, right_stored}

-- a call keeps a property of the state where the state after its edit has it
module _ (Q : State → Type 0) (s : State) (start : Q s) where
  -- an edit to t, which has the property unless the call is refused
  by_edit : (r : Answer) (t : State) → (r ≡ Accepted → Q t) → Q (edited r s t).state
  unfolding edited
  by_edit r t h = go (is_accepted r) refl
    where
      go : (u : Bool) → is_accepted r ≡ u → Q (cond u t s)
      go true e = h (accepted_is r e)
      go false e = start

  by_append : (o : State) → ((append_of s o).refusal ≡ Accepted → Q (stored (append (mesh_of s) (mesh_of o)) s)) → Q (append_of s o).state
  unfolding append_of
  by_append o h = by_edit (append_refusal s o) (stored (append (mesh_of s) (mesh_of o)) s) h

  by_flip : Q (stored (flip (mesh_of s)) s) → Q (flip_of s).state
  unfolding flip_of
  by_flip h = by_edit (check_of s) (stored (flip (mesh_of s)) s) (λ e. h)

  by_transform : (ops : List TransformOp) (count : ℕ) (degrees : Bool) → Q (stored (transformed ops count degrees (mesh_of s)) s)
      → Q (transform_of ops count degrees s).state
  unfolding transform_of
  by_transform ops count degrees h =
      by_edit (transform_refusal ops count degrees s) (cond (eqb count 0) s (stored (transformed ops count degrees (mesh_of s)) s)) (λ e. go (eqb count 0))
    where
      go : (b : Bool) → Q (cond b s (stored (transformed ops count degrees (mesh_of s)) s))
      go true = start
      go false = h

-- ---- properties of the mesh
module _ (P : Mesh → Type 0) (k : KeptByEdits P) (s : State) (start : P (mesh_of s)) where
  abbrev of_mesh : State → Type 0
  of_mesh t = P (mesh_of t)

  held : (m : Mesh) → P m → of_mesh (stored m s)
  held m p = subst P (sym (mesh_stored m s)) p

  by_call : (c : Call) → Brings P c s → of_mesh (outcome c s).state
  unfolding transformed
  by_call (Append o) h = by_append of_mesh s start o (λ e. held (append (mesh_of s) (mesh_of o)) (k.appended (mesh_of s) (mesh_of o) start (h e)))
  by_call Flip h = by_flip of_mesh s start (held (flip (mesh_of s)) (k.flipped (mesh_of s) start))
  by_call (Transform ops count degrees) h =
      by_transform of_mesh s start ops count degrees
      (held (transformed ops count degrees (mesh_of s)) (k.transformed (folded degrees (take count ops)) (mesh_of s) start))

pub by_list : (P : Mesh → Type 0) → KeptByEdits P → (s : State) (calls : List Call) → Kept P s calls
by_list P k s [] start h = start
by_list P k s (c ∷ cs) start h = by_list P k (outcome c s).state cs (by_call P k s start c h.0) h.1

-- a list that brings a property brings what follows from it
module _ (P Q : Mesh → Type 0) (follows : (m : Mesh) → P m → Q m) where
  brings : (c : Call) (s : State) → Brings P c s → Brings Q c s
  brings (Append o) s h = λ e. follows (mesh_of o) (h e)
  brings Flip s h = tt
  brings (Transform ops count degrees) s h = tt

  pub all_bring : (calls : List Call) (s : State) → AllBring P calls s → AllBring Q calls s
  all_bring [] s h = tt
  all_bring (c ∷ cs) s h = (brings c s h.0, all_bring cs (outcome c s).state h.1)

pub none_twice_kept : (s : State) (calls : List Call) → Kept NoneTwice s calls
none_twice_kept = by_list NoneTwice (record { appended = append_none_twice; flipped = flip_none_twice; transformed = transform_none_twice })

pub all_there_kept : (s : State) (calls : List Call) → Kept AllThere s calls
all_there_kept = by_list AllThere (record { appended = append_all_there; flipped = flip_all_there; transformed = transform_all_there })

right_by_call : (c : Call) (s : State) → RightBox s → RightBox (outcome c s).state
right_by_call (Append o) s r = by_append RightBox s r o (λ e. right_stored (append (mesh_of s) (mesh_of o)) s)
right_by_call Flip s r = by_flip RightBox s r (right_stored (flip (mesh_of s)) s)
right_by_call (Transform ops count degrees) s r = by_transform RightBox s r ops count degrees (right_stored (transformed ops count degrees (mesh_of s)) s)

pub right_kept : (s : State) (calls : List Call) → RightBox s → RightBox (after s calls)
right_kept s [] r = r
right_kept s (c ∷ cs) r = right_kept (outcome c s).state cs (right_by_call c s r)
