-- `tessellate_place::place::complete` meets its contract. Assumes nothing.
use mathlib.Core.Path.{◌≡◌, ap}
use Rattle.refusal.specs.Answer.{Answer}
use Rattle.mesh_spec.specs.Mesh.{Mesh}
use Rattle.mesh_check.specs.State.{state, mesh_of}
use Rattle.mesh_check.proofs.Lying.{stored_whole, mesh_is}
use Rattle.mesh_made.proofs.Ending.{makes_as}
use Rattle.solid_spec.specs.Solid.{outward_if}
use Rattle.tessellate_spec.specs.Outcome.{placed}
use Rattle.tessellate_place.specs.Ends.{placed_refusal}
use Rattle.tessellate_place.proofs.Turning.{outward_if_there}
use borrow.Author.Rules.{rules}
use Rattle.tessellate_place.proofs.place.complete.Goals as goal

pub place-requires : goal.place-requires
place-requires c =
    let u = c in
    let b = u in
    let a = b.args in
    let s = state a.mesh a.vertices.now a.triangles.now in
    let t = state a.mesh a.vertices.now u.turn_rotated.new.triangles in
    (stored_whole (outward_if a.rotated (mesh_of s)) t s u.turn_rotated.ensures (outward_if_there a.rotated (mesh_of s) b.requires.there)).recorded

pub returns : goal.returns
returns c =
    let p = c in
    let u = p in
    let a = u.args in
    let s = state a.mesh a.vertices.now a.triangles.now in
    let t = state a.mesh a.vertices.now u.turn_rotated.new.triangles in
    let e : mesh_of t ≡ outward_if a.rotated (mesh_of s) = mesh_is (outward_if a.rotated (mesh_of s)) t s u.turn_rotated.ensures in
    makes_as
    (ap {B = Answer} (placed_refusal a.ops.now.degrees a.ops.now.ops a.ops.now.count) e)
    (ap {B = Mesh} (placed a.ops.now.degrees a.ops.now.ops a.ops.now.count) e)
    p.place.ensures
