-- What a drawing makes: the parts welded and refused, or turned outward and placed. Assumes nothing.
use mathlib.Core.Path.{◌≡◌, refl, sym, ap, ◌∙◌, subst}
use mathlib.Core.Bool.{Bool, true, false, cond}
use mathlib.Core.List.{List}
use Prim.Native.Nat.{ℕ}
use lib.ListN.{length}
use lib.Ieee.{Float}
use Rattle.std.specs.Prelude.{Result}
use Rattle.refusal.specs.declared.Refusal.{Refusal}
use Rattle.refusal.specs.Answer.{Answer, Accepted, PointNotFinite, answer_of}
use Rattle.refusal.specs.Accepted.{is_accepted, or_else}
use Rattle.refusal.specs.Laws.{accepted_is}
use Rattle.mesh_spec.specs.Mesh.{Mesh, from_parts}
use Rattle.mesh_spec.proofs.PartsLaws.{from_parts_there}
use Rattle.shape.specs.declared.CoordSystem.{CoordSystem}
use Rattle.shape.specs.Drawing.{cylindrical, shape_cs}
use Rattle.shape.specs.DrawingLaws.{accepted}
use Rattle.mesh_check.specs.State.{state, mesh_of}
use Rattle.shape.specs.Rotated.{is_rot_poly}
use Rattle.mesh_check.specs.Places.{Whole}
use Rattle.mesh_check.proofs.Lying.{mesh_is, stored_whole}
use Rattle.mesh_check.specs.declared.TriMesh.{TriMesh}
use Rattle.mesh_made.specs.Made.{Lent, record_made}
use Rattle.mesh_made.specs.Steps.{Makes, parts_refusal}
use Rattle.mesh_made.proofs.Ending.{makes_as, makes_none}
use Rattle.solid_spec.specs.Solid.{parts_of, outward_if}
use Rattle.tessellate_spec.specs.Outcome.{Job, job_parts, welded_mesh, placed, final_mesh, job_refusal, bad_placed, bad_vertex, refusal_of}
use Rattle.tessellate_spec.specs.OutcomeLaws.{welded_is}
use Rattle.tessellate_spec.proofs.OutcomeLawsHeld.{at_parts}
use Rattle.tessellate_place.specs.Ends.{placed_refusal}
use Rattle.tessellate_weld.specs.Steps.{Drawable, Drawn}

-- refusals 3 and 4 do not apply
pub drawable : (j : Job) → job_refusal j ≡ Accepted → Drawable j.shape j.list j.options
unfolding job_refusal
drawable j e =
    let a = accepted j.shape j.list j.own j.default j.options j.ops j.count j.degrees e in
    record { segments = a.segments_most; rings = a.rings_most; items = a.list_whole }

module _ (j : Job) (n : Lent) (made : Result TriMesh Refusal) (vs : List Float) (ts : List ℕ) where
  -- the parts were welded in the shape's system
  pub in_system : (cs : CoordSystem) (c : Bool) → cs ≡ shape_cs j.shape j.own j.default → c ≡ cylindrical cs
      → Makes (parts_refusal (parts_of c j.shape j.list j.options) n) (from_parts (parts_of c j.shape j.list j.options)) made vs ts
      → Makes (parts_refusal (job_parts j) n) (from_parts (job_parts j)) made vs ts
  unfolding job_parts
  in_system cs c e f M =
      subst (λ (b : Bool). Makes (parts_refusal (parts_of b j.shape j.list j.options) n) (from_parts (parts_of b j.shape j.list j.options)) made vs ts)
      (f ∙ ap {B = Bool} cylindrical e) M

  module _ (D : Drawn j n) (M : Makes (parts_refusal (job_parts j) n) (from_parts (job_parts j)) made vs ts) where
    -- refused: 5 or 7
    pub parts_refused : is_accepted (answer_of made) ≡ false → Makes (refusal_of j n) (final_mesh j) made vs ts
    unfolding or_else
    parts_refused a =
        let q : is_accepted (parts_refusal (job_parts j) n) ≡ false = ap {B = Bool} is_accepted (sym M.refusal) ∙ a in
        makes_as
        (sym (ap {B = Answer} (λ (b : Bool). cond b (cond (bad_vertex j) PointNotFinite Accepted) (parts_refusal (job_parts j) n)) q) ∙ at_parts j n D.work D.drawing) refl
        (makes_none (final_mesh j) q M)

    module _ (a : is_accepted (answer_of made) ≡ true) where
      none_due : is_accepted (parts_refusal (job_parts j) n) ≡ true
      none_due = ap {B = Bool} is_accepted (sym M.refusal) ∙ a

      pub whole : Whole (state (record_made made) vs ts)
      whole = stored_whole (from_parts (job_parts j)) (state (record_made made) vs ts) (state (record_made made) vs ts) (M.holds none_due) (from_parts_there (job_parts j))

      -- turned outward, and under the operations
      pub completed : (rotated : Bool) → rotated ≡ is_rot_poly j.shape → (r : Result TriMesh Refusal) (us : List Float) (ss : List ℕ)
          → Makes (placed_refusal j.degrees j.ops j.count (outward_if rotated (mesh_of (state (record_made made) vs ts))))
          (placed j.degrees j.ops j.count (outward_if rotated (mesh_of (state (record_made made) vs ts)))) r us ss
          → Makes (refusal_of j n) (final_mesh j) r us ss
      unfolding or_else bad_vertex final_mesh
      completed rotated e r us ss K =
          let s = state (record_made made) vs ts in
          let w : outward_if rotated (mesh_of s) ≡ welded_mesh j =
          (λ i. outward_if (e i) (mesh_is (from_parts (job_parts j)) s s (M.holds none_due) i)) ∙ sym (welded_is j) in
          makes_as
          (ap {B = Answer} (λ (m : Mesh). placed_refusal j.degrees j.ops j.count m) w
          ∙ sym (ap {B = Answer} (λ (b : Bool). cond b (cond (bad_vertex j) PointNotFinite Accepted) (parts_refusal (job_parts j) n)) none_due)
          ∙ at_parts j n D.work D.drawing)
          (ap {B = Mesh} (placed j.degrees j.ops j.count) w) K
