-- `tessellate::make` meets its contract: a refusal for each check, or the drawing. Assumes nothing.
use mathlib.Core.Path.{◌≡◌, refl, sym, ap, ◌∙◌}
use mathlib.Core.Bool.{Bool, false}
use borrow.Author.Rules.{rules}
use Rattle.std.specs.Prelude.{Ok, Err, Some}
use Rattle.refusal.specs.declared.Refusal.TheVariants.{ShortWork}
use Rattle.refusal.specs.Accepted.{is_accepted}
use Rattle.refusal.specs.Laws.{refused_is, passed_on}
use Rattle.mesh_made.specs.Made.{lent}
use Rattle.mesh_made.proofs.Ending.{makes_as, makes_is, makes_refused}
use Rattle.tessellate_spec.specs.Outcome.{job_of, final_mesh, job_refusal}
use Rattle.tessellate_spec.proofs.OutcomeLawsHeld.{at_work, at_drawing}
use Rattle.tessellate.proofs.make.Goals as goal

pub returns-then-short : goal.returns-then-short
returns-then-short c =
    let a = c.args in
    let j = job_of a.d.now in
    let n = lent a.vertices.now a.triangles.now a.work.now in
    makes_as (at_work j n (sym c.short_work-short.ensures ∙ c.if-short.true)) refl
    (makes_refused ShortWork (final_mesh j) a.vertices.now a.triangles.now refl)

pub returns-in_err-drawn : goal.returns-in_err-drawn
unfolding job_refusal
returns-in_err-drawn c =
    let a = c.args in
    let j = job_of a.d.now in
    let n = lent a.vertices.now a.triangles.now a.work.now in
    let k = c.in_err-drawn.ensures in
    makes_is (passed_on c.from_residual.result c.in_err-drawn.field-0.0 c.from_residual.ensures.1)
    (makes_as (k ∙ at_drawing j n (sym c.short_work-short.ensures ∙ c.if-short.false) (sym (ap {B = Bool} is_accepted k) ∙ refused_is _)) refl
    (makes_refused _ (final_mesh j) a.vertices.now a.triangles.now (refused_is _)))

pub draw-requires : goal.draw-requires
unfolding job_refusal
draw-requires c = record { work = sym c.short_work-short.ensures ∙ c.if-short.false; drawing = sym c.in_ok-drawn.ensures }

pub returns : goal.returns
returns c = c.draw.ensures
