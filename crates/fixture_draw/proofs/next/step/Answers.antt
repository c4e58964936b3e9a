-- `fixture_draw::next::step` meets its contract. Assumes nothing.
use mathlib.Core.Path.{subst}
use native.Mathlib.Omega.{arith}
use Rattle.refusal.specs.Laws.{passed_on}
use Rattle.fixture_next.specs.Job.{IsJob}
use Rattle.fixture_draw.proofs.Walks.{stepped_is, walk_is, here, stepped_none, stepped_refused, placing, stepped_more}
use Rattle.fixture_draw.proofs.next.step.Goals as goal

pub next_job-requires : goal.next_job-requires
next_job-requires c = here c.args.file.now c.args.w c.args.out.now c.requires.0

pub returns-in_default : goal.returns-in_default
returns-in_default c =
    let a = c.args in
    let none = subst (IsJob a.file.now a.w.at a.w.options a.w.default) c.in_default.is c.next_job.ensures in
    stepped_none a.file.now a.w a.out.now c.requires.0 none

pub draw_job-requires : goal.draw_job-requires
draw_job-requires c = (
  record {
    ready = here c.args.file.now c.args.w c.args.out.now c.requires.0;
    inside = c.in-Some.ensures.inside;
    few = c.in-Some.ensures.few;
  },
  c.requires.1,
)

pub returns-in_err-mesh : goal.returns-in_err-mesh
returns-in_err-mesh c =
    let a = c.args in
    let q = c.in_err-mesh.field-0.0 in
    stepped_is _ _ _ _ _ _ (passed_on c.from_residual.result q c.from_residual.ensures.1)
    (stepped_refused a.file.now a.w a.out.now c.requires.0 c.in-Some.j c.in-Some.ensures _ _ _ q c.in_err-mesh.ensures)

pub place-requires : goal.place-requires
place-requires c =
    let a = c.args in
    placing a.file.now a.w a.out.now c.requires.0 c.in-Some.j c.in-Some.ensures _ _ _ c.in_ok-mesh.mesh c.in_ok-mesh.ensures
    (omega (arith, c.requires.1.vertices)) (omega (arith, c.requires.1.triangles))

pub returns : goal.returns
returns c =
    let a = c.args in
    walk_is _ _ _ _ _ _ c.place.ensures.0
    (stepped_more a.file.now a.w a.out.now c.requires.0 c.in-Some.j c.in-Some.ensures _ _ _ c.in_ok-mesh.mesh c.in_ok-mesh.ensures
    (omega (arith, c.requires.1.vertices)) (omega (arith, c.requires.1.triangles)) _ c.place.ensures.1)
