-- `tessellate_place::turn::turn_rotated` meets its contract. Assumes nothing.
use mathlib.Core.Path.{◌≡◌, sym, ap, ◌∙◌}
use mathlib.Core.Bool.{Bool}
use Rattle.mesh_check.specs.State.{State, state, mesh_of, stored}
use Rattle.solid_spec.specs.Solid.{outward_if}
use Rattle.mesh_check.proofs.Lying.{stored_self}
use borrow.Author.Rules.{rules}
use Rattle.tessellate_place.proofs.turn.turn_rotated.Goals as goal

pub returns-then-rotated : goal.returns-then-rotated
returns-then-rotated c =
    let c4 = c in
    let a = c4.args in
    let s = state a.mesh a.vertices.now a.triangles.now in
    c.turn_outward.ensures
    ∙ sym (ap {B = State} (λ (b : Bool). stored (outward_if b (mesh_of s)) s) c4.if-rotated.true)

pub returns : goal.returns
returns c =
    let c3 = c in
    let a = c3.args in
    let s = state a.mesh a.vertices.now a.triangles.now in
    stored_self s c3.requires
    ∙ sym (ap {B = State} (λ (b : Bool). stored (outward_if b (mesh_of s)) s) c.if-rotated.false)
