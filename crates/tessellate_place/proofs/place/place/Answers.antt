-- `tessellate_place::place::place` meets its contract. Assumes nothing.
use mathlib.Core.Path.{ap, ◌∙◌}
use Rattle.math_matrix.specs.declared.Mat4.{Mat4}
use Rattle.refusal.specs.Answer.{Answer}
use Rattle.mesh_spec.specs.Mesh.{Mesh}
use Rattle.mesh_spec.specs.Edits.{transform}
use Rattle.mesh_check.specs.State.{state, mesh_of}
use Rattle.mesh_check.proofs.Lying.{stored_self}
use Rattle.mesh_made.proofs.Ending.{makes_as, makes_accepted}
use Rattle.tessellate_place.specs.Ends.{moved_refusal}
use Rattle.tessellate_place.proofs.Moving.{placed_moves, placed_none}
use borrow.Author.Rules.{rules}
use borrow.Author.Tests.{eq-eqb, ne_eqb}
use Rattle.tessellate_place.proofs.place.place.Goals as goal

pub returns-then-ops-eq0 : goal.returns-then-ops-eq0
returns-then-ops-eq0 c =
    let a = c.args in
    let o = a.ops.now in
    let s = state a.mesh a.vertices.now a.triangles.now in
    let p = placed_none o.degrees o.ops o.count (mesh_of s) (eq-eqb o.count 0 c.if-ops-eq0.true) in
    makes_as p.0 p.1 (makes_accepted (mesh_of s) s a.mesh a.vertices.now a.triangles.now (stored_self s c.requires))

pub returns : goal.returns
returns c =
    let a = c.args in
    let o = a.ops.now in
    let s = state a.mesh a.vertices.now a.triangles.now in
    let p = placed_moves o.degrees o.ops o.count (mesh_of s) (ne_eqb o.count 0 c.if-ops-eq0.false) in
    makes_as
    (ap {B = Answer} (λ (x : Mat4). moved_refusal x (mesh_of s)) c.fold.ensures ∙ p.0)
    (ap {B = Mesh} (λ (x : Mat4). transform x (mesh_of s)) c.fold.ensures ∙ p.1)
    c.moved.ensures
