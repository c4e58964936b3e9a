-- `mesh_measures::signed_volume` meets its contract. Assumes nothing.
use lib.Ieee.{binary64, of_bits, div}
use Rattle.refusal.specs.Laws.{passed_on}
use Rattle.mesh_check.specs.State.{state, mesh_of}
use Rattle.mesh_spec.specs.Measures.{signed_volume, volume_term}
use Rattle.mesh_sums.proofs.Terms.{volume_is}
use Rattle.mesh_measures.proofs.Readings.{all_within, sum_is, unrefused, measure_refused, measure_done}
use Rattle.mesh_measures.proofs.signed_volume.Goals as goal

pub returns-in_err-check : goal.returns-in_err-check
returns-in_err-check c =
    let a = c.args in
    let r = c.in_err-check.field-0.0 in
    measure_refused signed_volume (state a.mesh a.vertices.now a.triangles.now) r c.from_residual.result
    (passed_on c.from_residual.result r c.from_residual.ensures.1) c.in_err-check.ensures

pub volume_sum-x-requires : goal.volume_sum-x-requires
volume_sum-x-requires c =
    let a = c.args in
    let s = state a.mesh a.vertices.now a.triangles.now in
    all_within s (unrefused s c.in_ok-check.field-0 c.in_ok-check.ensures)

pub returns : goal.returns
returns c =
    let a = c.args in
    let s = state a.mesh a.vertices.now a.triangles.now in
    let b = c.in_ok-check.field-0 in
    let x = c.volume_sum-x in
    measure_done signed_volume s b (div binary64 x.result (of_bits binary64 0x4018000000000000)) c.bits_of.result c.in_ok-check.ensures
    (volume_is (mesh_of s) x.result (sum_is s (unrefused s b c.in_ok-check.ensures) volume_term (of_bits binary64 0) x.result x.ensures)) c.bits_of.ensures
