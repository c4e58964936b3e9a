-- `mesh_measures::enclosed_volume` meets its contract. Assumes nothing.
use mathlib.Core.Path.{ap, ◌∙◌}
use lib.Ieee.{Float, binary64, of_bits}
use Rattle.ieee.specs.Number.{absolute}
use Rattle.refusal.specs.Laws.{passed_on}
use Rattle.mesh_check.specs.State.{state, mesh_of}
use Rattle.mesh_spec.specs.Measures.{enclosed_volume, volume_term}
use Rattle.mesh_sums.proofs.Terms.{volume_is}
use Rattle.mesh_measures.proofs.Readings.{all_within, sum_is, unrefused, measure_refused, measure_done}
use Rattle.mesh_measures.proofs.enclosed_volume.Goals as goal

pub returns-in_err-check : goal.returns-in_err-check
returns-in_err-check c =
    let a = c.args in
    let r = c.in_err-check.field-0.0 in
    measure_refused enclosed_volume (state a.mesh a.vertices.now a.triangles.now) r c.from_residual.result
    (passed_on c.from_residual.result r c.from_residual.ensures.1) c.in_err-check.ensures

pub volume_sum-requires : goal.volume_sum-requires
volume_sum-requires c =
    let a = c.args in
    let s = state a.mesh a.vertices.now a.triangles.now in
    all_within s (unrefused s c.in_ok-check.field-0 c.in_ok-check.ensures)

pub returns : goal.returns
unfolding enclosed_volume
returns c =
    let a = c.args in
    let s = state a.mesh a.vertices.now a.triangles.now in
    let b = c.in_ok-check.field-0 in
    let x = c.volume_sum in
    let y = c.abs-x in
    let v = volume_is (mesh_of s) x.result (sum_is s (unrefused s b c.in_ok-check.ensures) volume_term (of_bits binary64 0) x.result x.ensures) in
    measure_done enclosed_volume s b y.result c.bits_of.result c.in_ok-check.ensures (y.ensures ∙ ap {B = Float} absolute v) c.bits_of.ensures
