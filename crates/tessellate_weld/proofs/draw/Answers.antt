-- `tessellate_weld::draw` meets its contract. Assumes nothing.
use mathlib.Core.Path.{refl}
use borrow.Author.Rules.{rules}
use Rattle.std.specs.Prelude.{Ok, Err}
use Rattle.refusal.specs.Laws.{refused_is, passed_on}
use Rattle.mesh_made.specs.Made.{lent}
use Rattle.mesh_made.proofs.Ending.{makes_is}
use Rattle.tessellate_spec.specs.Outcome.{job_of}
use Rattle.tessellate_weld.proofs.Drawing.{drawable, in_system, parts_refused, whole, completed}
use Rattle.tessellate_weld.proofs.draw.Goals as goal

pub weld_all-requires : goal.weld_all-requires
weld_all-requires c = (drawable (job_of c.args.d.now) c.requires.drawing, c.requires.work)

pub returns-in_err-mesh : goal.returns-in_err-mesh
returns-in_err-mesh c =
    let a = c.args in
    let j = job_of a.d.now in
    let n = lent a.vertices.now a.triangles.now a.work.now in
    let M = in_system j n _ _ _ c.shape_cs.result c.is_cylindrical-cylindrical.result c.shape_cs.ensures c.is_cylindrical-cylindrical.ensures c.in_err-mesh.ensures in
    makes_is (passed_on c.from_residual.result c.in_err-mesh.field-0.0 c.from_residual.ensures.1) (parts_refused j n _ _ _ c.requires M (refused_is _))

pub complete-requires : goal.complete-requires
complete-requires c =
    let a = c.args in
    let j = job_of a.d.now in
    let n = lent a.vertices.now a.triangles.now a.work.now in
    let M = in_system j n _ _ _ c.shape_cs.result c.is_cylindrical-cylindrical.result c.shape_cs.ensures c.is_cylindrical-cylindrical.ensures c.in_ok-mesh.ensures in
    whole j n _ _ _ c.requires M refl

pub returns : goal.returns
returns c =
    let a = c.args in
    let j = job_of a.d.now in
    let n = lent a.vertices.now a.triangles.now a.work.now in
    let M = in_system j n _ _ _ c.shape_cs.result c.is_cylindrical-cylindrical.result c.shape_cs.ensures c.is_cylindrical-cylindrical.ensures c.in_ok-mesh.ensures in
    completed j n _ _ _ c.requires M refl c.is_rot_poly-rotated.result c.is_rot_poly-rotated.ensures _ _ _ c.complete.ensures
