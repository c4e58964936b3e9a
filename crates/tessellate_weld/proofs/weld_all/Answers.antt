-- `tessellate_weld::weld_all` meets its contract. Assumes nothing.
use mathlib.Core.Path.{◌≡◌, refl, sym, ap, ◌∙◌}
use native.Mathlib.Omega.{arith}
use lib.ListN.{length}
use borrow.Author.Rules.{rules}
use Rattle.refusal.specs.Answer.{Answer}
use Rattle.weld.specs.Welding.{held_by}
use Rattle.weld.specs.PartsLaws.{parts_welded}
use Rattle.mesh_made.specs.Steps.{parts_refusal}
use Rattle.mesh_made.proofs.Ending.{lent_same, makes_as}
use Rattle.mesh_made.proofs.Judging.{work_enough, welded_makes}
use Rattle.solid_spec.specs.Solid.{parts_of}
use Rattle.tessellate_weld.proofs.Welding.{bounded, listed, welded_in}
use Rattle.tessellate_weld.proofs.weld_all.Goals as goal

pub begin-st-requires : goal.begin-st-requires
begin-st-requires c = work_enough (length c.args.vertices.now) (length c.args.work.now) c.requires.1

pub weld_shape-requires : goal.weld_shape-requires
weld_shape-requires c =
    let a = c.args in
    record { ready = c.begin-st.ensures.ready a.triangles.now; few_segments = (bounded a.shape a.list.now a.options c.requires.0, listed a.shape a.list.now a.options c.requires.0) }

pub returns : goal.returns
returns c =
    let a = c.args in
    let parts = parts_of a.cylindrical a.shape a.list.now a.options in
    let r = c.weld_shape.new.w in
    let vs = r.vertices.now in
    let ts = r.triangles.now in
    let ws = r.work.now in
    let k = held_by r in
    let R = c.weld_shape.ensures in
    let lv : length vs ≡ length a.vertices.now = R.runs.vlong in
    let lt : length ts ≡ length a.triangles.now = R.runs.tlong in
    let lw : length ws ≡ length a.work.now = R.runs.wlong ∙ c.begin-st.auto.work in
    let fv = c.vertices-1.given.1.1 (sym R.same.vertices) in
    let ft = c.triangles-1.given.1.1 (sym R.same.triangles) in
    welded_in r.st fv ft c.judge.ensures
    (makes_as (ap {B = Answer} (parts_refusal parts) (lent_same vs a.vertices.now ts a.triangles.now ws a.work.now lv lt lw)) refl
    (welded_makes parts k
    (parts_welded parts c.begin-st.result a.vertices.now a.triangles.now c.begin-st.new.work k c.begin-st.ensures R.runs)))
