-- `mesh_transform::transform` meets its contract: the refusal, or the mesh moved. Assumes nothing.
use mathlib.Core.Path.{◌≡◌, refl, sym, ap, ◌∙◌}
use mathlib.Core.Bool.{cond}
use lib.Dec.{eqb}
use borrow.Author.Tests.{eq-eqb, ne_eqb}
use Rattle.math_matrix.specs.declared.Mat4.{Mat4}
use Rattle.mesh_spec.specs.Edits.{transform}
use Rattle.refusal.specs.Answer.{Accepted}
use Rattle.refusal.specs.Laws.{passed_on}
use Rattle.mesh_check.specs.State.{State, state, mesh_of, stored}
use Rattle.mesh_check_transform.specs.Transform.{transformed, transform_refusal}
use Rattle.mesh_edit_law.specs.Edits.{transform_of}
use Rattle.mesh_edit_law.proofs.Given.{gives_kept, gives_done}
use Rattle.mesh_transform.proofs.Accepted.{transform_sound, transform_finite}
use Rattle.mesh_transform.proofs.transform.Goals as goal

pub returns-in_err-transform_refusal : goal.returns-in_err-transform_refusal
unfolding transform_of
returns-in_err-transform_refusal c =
    let a = c.args in
    let o = a.ops.now in
    let s = state a.mesh a.vertices.now a.triangles.now in
    let t = cond (eqb o.count 0) s (stored (transformed o.ops o.count o.degrees (mesh_of s)) s) in
    let p = c.in_err-transform_refusal.field-0.0 in
    gives_kept (transform_refusal o.ops o.count o.degrees s) s t c.from_residual.result p
    (passed_on c.from_residual.result p c.from_residual.ensures.1) c.in_err-transform_refusal.ensures

pub returns-then-ops-eq0 : goal.returns-then-ops-eq0
unfolding transform_of
returns-then-ops-eq0 c =
    let a = c.args in
    let o = a.ops.now in
    let s = state a.mesh a.vertices.now a.triangles.now in
    let t = cond (eqb o.count 0) s (stored (transformed o.ops o.count o.degrees (mesh_of s)) s) in
    let z = eq-eqb o.count 0 c.if-ops-eq0.true in
    gives_done (transform_refusal o.ops o.count o.degrees s) s t a.mesh s s.vertices s.triangles c.in_ok-transform_refusal.ensures (rw z) refl refl

pub move_mesh-after-requires : goal.move_mesh-after-requires
move_mesh-after-requires c =
    let a = c.args in
    let o = a.ops.now in
    let s = state a.mesh a.vertices.now a.triangles.now in
    record {
      sound = transform_sound s o.ops o.count o.degrees Accepted c.in_ok-transform_refusal.ensures refl;
      finite = λ u. (transform_finite s o.ops o.count o.degrees Accepted c.in_ok-transform_refusal.ensures refl).finite;
    }

pub returns : goal.returns
unfolding transform_of transformed
returns c =
    let a = c.args in
    let o = a.ops.now in
    let s = state a.mesh a.vertices.now a.triangles.now in
    let t = cond (eqb o.count 0) s (stored (transformed o.ops o.count o.degrees (mesh_of s)) s) in
    let z = ne_eqb o.count 0 c.if-ops-eq0.false in
    let v = c.move_mesh-after in
    let u = state v.result v.new.vertices v.new.triangles in
    let e : t ≡ u = rw z (sym (v.ensures ∙ ap {B = State} (λ (x : Mat4). stored (transform x (mesh_of s)) s) c.fold-a.ensures)) in
    gives_done (transform_refusal o.ops o.count o.degrees s) s t a.mesh u v.new.vertices v.new.triangles c.in_ok-transform_refusal.ensures e refl refl
