-- The first refusal of a job, by what the checks say in their order. Assumes nothing.
use Rattle.std.specs.Prelude.{◌≡◌, Bool, not, ◌||◌}
use Rattle.std.proofs.Math.Path.{refl, sym}
use Rattle.std.proofs.Common.{◌∙◌}
use Rattle.std.proofs.Math.Bool.{true, false, cond}
use Rattle.refusal.specs.Answer.{Answer, Accepted, PointNotFinite, ShortWork, NoRoom}
use Rattle.refusal.specs.Accepted.{is_accepted, or_else}
use Rattle.mesh_spec.specs.Mesh.{from_parts}
use Rattle.mesh_spec.specs.Parts.{parts_finite}
use Rattle.mesh_check.specs.State.{no_room}
use Rattle.mesh_made.specs.Made.{Lent, short_work}
use Rattle.mesh_made.specs.Steps.{parts_refusal}
use Rattle.tessellate_spec.specs.Outcome.{Job, job_parts, welded_mesh, job_refusal, bad_soup, bad_vertex, refusal_of}
use Rattle.tessellate_spec.specs.OutcomeLaws.{places_same}

module _ (j : Job) (n : Lent) where
  -- the checks from the soup's on
  abbrev later : Bool → Bool → Answer
  later soup places = cond soup PointNotFinite (cond places NoRoom (cond (bad_vertex j) PointNotFinite Accepted))

  by_tests : (work : Bool) (drawing : Answer) → short_work n.vertices n.work ≡ work → job_refusal j ≡ drawing
      → refusal_of j n ≡ cond work ShortWork (or_else drawing (later (bad_soup j) (no_room (welded_mesh j) n.vertices n.triangles)))
  unfolding refusal_of
  by_tests work drawing a b = λ i. cond (a i) ShortWork (or_else (b i) (later (bad_soup j) (no_room (welded_mesh j) n.vertices n.triangles)))

  -- 6
  pub at_work : short_work n.vertices n.work ≡ true → ShortWork ≡ refusal_of j n
  at_work a = sym (by_tests true (job_refusal j) a refl)

  -- 3, 4, 1 or 2
  pub at_drawing : short_work n.vertices n.work ≡ false → is_accepted (job_refusal j) ≡ false → job_refusal j ≡ refusal_of j n
  unfolding or_else
  at_drawing a b = sym (by_tests false (job_refusal j) a refl ∙ rw b)

  -- after them: what is due of the parts, then 5 over the vertices under the operations
  pub at_parts : short_work n.vertices n.work ≡ false → job_refusal j ≡ Accepted
      → or_else (parts_refusal (job_parts j) n) (cond (bad_vertex j) PointNotFinite Accepted) ≡ refusal_of j n
  unfolding or_else parts_refusal bad_soup
  at_parts a b =
      sym
      (by_tests false Accepted a b
      ∙ (λ i. later (not (parts_finite (job_parts j))) (places_same j n i))
      ∙ chosen (not (parts_finite (job_parts j))) (no_room (from_parts (job_parts j)) n.vertices n.triangles)
      (cond (bad_vertex j) PointNotFinite Accepted))
    where
      chosen : (b c : Bool) (z : Answer) → cond b PointNotFinite (cond c NoRoom z) ≡ or_else (cond b PointNotFinite (cond c NoRoom Accepted)) z
      chosen true c z = unfold or_else in refl
      chosen false true z = unfold or_else in refl
      chosen false false z = unfold or_else in refl
