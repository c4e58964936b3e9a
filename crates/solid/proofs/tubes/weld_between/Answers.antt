-- `solid::tubes::weld_between` meets its contract. Assumes nothing.
use Rattle.solid.proofs.ShapeRuns.{between_runs}
use Rattle.solid.proofs.tubes.weld_between.Goals as goal

pub weld_cylinder-requires : goal.weld_cylinder-requires
weld_cylinder-requires c = record { ready = c.requires.ready; segments_bound = c.requires.segments_bound }

pub returns : goal.returns
returns c = between_runs _ _ _ _ _ _ _ _ _ _ c.to_cartesian-a.ensures c.to_cartesian-b.ensures c.weld_cylinder.ensures
