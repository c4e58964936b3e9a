-- What an accepted outcome of `tessellate` says: the drawing was accepted, every soup point was finite, and the slices hold the final mesh. Assumes nothing.
use Rattle.std.specs.Prelude.{◌≡◌, refl, Bool, true, false, cond}
use Rattle.std.proofs.Common.{sym, ap, ◌∙◌, arith}
use Rattle.std.proofs.lemmas.Bool.{not-false}
use Rattle.refusal.specs.Answer.{Answer, Accepted, PointNotFinite, ShortWork, NoRoom}
use Rattle.refusal.specs.Number.{number_of}
use Rattle.shape.specs.DrawingLaws.{AcceptedDrawing, accepted}
use Rattle.refusal.specs.Accepted.{is_accepted, or_else}
use Rattle.mesh_spec.specs.Parts.{parts_finite}
use Rattle.mesh_check.specs.State.{no_room}
use Rattle.mesh_made.specs.Made.{Lent, short_work}
use Rattle.mesh_made.proofs.MadeLawsHeld.{made_unrefused, made_holds}
use Rattle.tessellate_spec.specs.Outcome.{Job, job_parts, final_mesh, welded_mesh, job_refusal, bad_soup, bad_vertex, refusal_of, tessellate_of}
use Rattle.refusal.specs.Laws.{accepted_is}
use Rattle.tessellate_law.specs.Words.{Accepts, given}

-- ---- tests that did not refuse

passed : (b : Bool) (x r : Answer) → (number_of x ≡ 0 → ⊥) → cond b x r ≡ Accepted → (b ≡ false) × (r ≡ Accepted)
passed true x r n e = absurd (n (ap number_of e))
passed false x r n e = (refl, e)

both : (r s : Answer) → or_else r s ≡ Accepted → (r ≡ Accepted) × (s ≡ Accepted)
unfolding or_else
both r s = go (is_accepted r) refl
  where
    go : (b : Bool) → is_accepted r ≡ b → cond b s r ≡ Accepted → (r ≡ Accepted) × (s ≡ Accepted)
    go true q e = (accepted_is r q, e)
    go false q e = let no : false ≡ true = sym q ∙ ap is_accepted e in (e, cc)

-- ---- accepted outcomes

pub record AcceptedJob (j : Job) (n : Lent) : Type 0 where
  pub drawing : AcceptedDrawing j.shape j.list j.own j.default j.options j.ops j.count j.degrees
  pub soup : parts_finite (job_parts j) ≡ true

pub accepted_says : (j : Job) (n : Lent) → Accepts j n → AcceptedJob j n
unfolding tessellate_of refusal_of job_refusal bad_soup
accepted_says j n h =
    let e = made_unrefused (refusal_of j n) (final_mesh j) n h in
    let later = cond (no_room (welded_mesh j) n.vertices n.triangles) NoRoom (cond (bad_vertex j) PointNotFinite Accepted) in
    let p = passed (short_work n.vertices n.work) ShortWork (or_else (job_refusal j) (cond (bad_soup j) PointNotFinite later)) (λ z. omega (arith, z)) e in
    let q = both (job_refusal j) (cond (bad_soup j) PointNotFinite later) p.1 in
    let s = passed (bad_soup j) PointNotFinite later (λ z. omega (arith, z)) q.1 in
    record {
      drawing = accepted j.shape j.list j.own j.default j.options j.ops j.count j.degrees q.0;
      soup = not-false (parts_finite (job_parts j)) s.0;
    }

-- the slices of an accepted outcome hold the final mesh
pub given_final : (j : Job) (n : Lent) → Accepts j n → given j n ≡ final_mesh j
unfolding tessellate_of
given_final j n h = made_holds (refusal_of j n) (final_mesh j) n h
