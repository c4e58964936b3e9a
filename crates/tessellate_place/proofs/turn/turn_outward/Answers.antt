-- `tessellate_place::turn::turn_outward` meets its contract. Assumes nothing.
use Rattle.mesh_check.specs.State.{state}
use Rattle.mesh_measures.proofs.Readings.{all_within}
use Rattle.tessellate_place.proofs.Turning.{outward_turned, outward_kept}
use borrow.Author.Rules.{rules}
use Rattle.tessellate_place.proofs.turn.turn_outward.Goals as goal

pub volume_sum-volume-requires : goal.volume_sum-volume-requires
volume_sum-volume-requires c =
    let c3 = c in
    let a = c3.args in
    let s = state a.mesh a.vertices.now a.triangles.now in
    all_within s c3.requires.sound

pub returns-then-volume : goal.returns-then-volume
returns-then-volume c =
    let c4 = c in
    let c5 = c4 in
    let c9 = c5 in
    let a = c9.args in
    let s = state a.mesh a.vertices.now a.triangles.now in
    outward_turned s c9.requires c5.volume_sum-volume.result c5.volume_sum-volume.ensures _ c4.if-volume.true c.turn_all.ensures

pub returns : goal.returns
returns c =
    let c5 = c in
    let a = c5.args in
    let s = state a.mesh a.vertices.now a.triangles.now in
    outward_kept s c5.requires c.volume_sum-volume.result c.volume_sum-volume.ensures c.if-volume.false
