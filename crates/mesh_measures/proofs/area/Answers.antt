-- `mesh_measures::area` meets its contract. Assumes nothing.
use lib.Ieee.{binary64, of_bits}
use Rattle.refusal.specs.Laws.{passed_on}
use Rattle.mesh_check.specs.State.{state}
use Rattle.mesh_spec.specs.Measures.{area, area_term}
use Rattle.mesh_measures.proofs.Readings.{all_within, sum_is, unrefused, measure_refused, measure_done}
use Rattle.mesh_measures.proofs.area.Goals as goal

pub returns-in_err-check : goal.returns-in_err-check
returns-in_err-check c =
    let a = c.args in
    let r = c.in_err-check.field-0.0 in
    measure_refused area (state a.mesh a.vertices.now a.triangles.now) r c.from_residual.result
    (passed_on c.from_residual.result r c.from_residual.ensures.1) c.in_err-check.ensures

pub area_sum-x-requires : goal.area_sum-x-requires
area_sum-x-requires c =
    let a = c.args in
    let s = state a.mesh a.vertices.now a.triangles.now in
    all_within s (unrefused s c.in_ok-check.field-0 c.in_ok-check.ensures)

pub returns : goal.returns
unfolding area
returns c =
    let a = c.args in
    let s = state a.mesh a.vertices.now a.triangles.now in
    let b = c.in_ok-check.field-0 in
    let x = c.area_sum-x in
    measure_done area s b x.result c.bits_of.result c.in_ok-check.ensures
    (sum_is s (unrefused s b c.in_ok-check.ensures) area_term (of_bits binary64 0) x.result x.ensures) c.bits_of.ensures
