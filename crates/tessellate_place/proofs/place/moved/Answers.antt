-- `tessellate_place::place::moved` meets its contract. Assumes nothing.
use mathlib.Core.Path.{refl}
use mathlib.Core.Bool.{false≢true}
use Rattle.refusal.specs.declared.Refusal.TheVariants.{PointNotFinite}
use Rattle.mesh_spec.specs.Edits.{transform}
use Rattle.mesh_check.specs.State.{state, mesh_of}
use Rattle.mesh_made.proofs.Ending.{makes_as, makes_refused, makes_accepted}
use Rattle.tessellate_place.proofs.Moving.{moved_refused, moved_accepted}
use borrow.Author.Rules.{rules}
use Rattle.tessellate_place.proofs.place.moved.Goals as goal

pub returns-then-not-stay_finite : goal.returns-then-not-stay_finite
returns-then-not-stay_finite c =
    let f = c.stay_finite in
    let a = c.args in
    let s = state a.mesh a.vertices.now a.triangles.now in
    makes_as (moved_refused a.a s f.result f.ensures c.if-not-stay_finite.true) refl
    (makes_refused PointNotFinite (transform a.a (mesh_of s)) a.vertices.now a.triangles.now refl)

pub move_mesh-after-requires : goal.move_mesh-after-requires
move_mesh-after-requires c = record { sound = search rules; finite = λ e. absurd (false≢true e) }

pub returns : goal.returns
returns c =
    let f = c.stay_finite in
    let a = c.args in
    let s = state a.mesh a.vertices.now a.triangles.now in
    makes_as (moved_accepted a.a s f.result f.ensures c.if-not-stay_finite.false) refl
    (makes_accepted (transform a.a (mesh_of s)) s c.move_mesh-after.result _ _ c.move_mesh-after.ensures)
