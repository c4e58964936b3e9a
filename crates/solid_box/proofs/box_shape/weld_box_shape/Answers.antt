-- `solid_box::box_shape::weld_box_shape` meets its contract. Assumes nothing.
use Rattle.shape_arc.proofs.ArcLawsHeld.{arc_few}
use Rattle.solid_box.proofs.BoxRuns.{cylindrical_runs, shape_turned, shape_straight}
use Rattle.solid_box.proofs.box_shape.weld_box_shape.Goals as goal

pub weld_flat_box-requires : goal.weld_flat_box-requires
weld_flat_box-requires c = c.requires.ready

pub returns-then-not-cylindrical : goal.returns-then-not-cylindrical
returns-then-not-cylindrical c = shape_straight _ _ _ _ _ _ _ _ c.min-lo.ensures c.max-hi.ensures c.if-not-cylindrical.true c.weld_flat_box.ensures

pub weld_param_box-requires : goal.weld_param_box-requires
weld_param_box-requires c =
    let p = c.requires in
    record { ready = p.ready; n_bound = arc_few _ _ _ c.arc_segments-n.ensures p.segments_bound }

pub returns : goal.returns
returns c =
    shape_turned _ _ _ _ _ _ _ _ _ c.min-lo.ensures c.max-hi.ensures c.if-not-cylindrical.false c.is_full-turns.ensures
    (cylindrical_runs _ _ _ _ _ _ _ _ c.turned_to-high.ensures c.arc_segments-n.ensures c.weld_param_box.ensures)
