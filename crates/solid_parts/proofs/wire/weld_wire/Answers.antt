-- `solid_parts::wire::weld_wire` meets its contract. Assumes nothing.
use lib.Ieee.{of_bits}
use mathlib.Core.Path.{◌∙◌}
use Rattle.solid_parts.proofs.PartRuns.{wire_none, wire_runs}
use Rattle.solid_parts.proofs.wire.weld_wire.Goals as goal

pub weld_tubes-requires : goal.weld_tubes-requires
weld_tubes-requires c = record { ready = c.requires.ready; segments_bound = c.requires.segments_bound.0 }

pub weld_joints-requires : goal.weld_joints-requires
weld_joints-requires c = record { ready = c.weld_tubes.ensures.runs.ready; segments_bound = c.requires.segments_bound }

pub returns-then-r : goal.returns-then-r
unfolding of_bits
returns-then-r c = wire_runs _ _ _ _ _ _ _ _ c.if-r.true c.weld_tubes.ensures c.weld_joints.ensures

pub returns-else-r : goal.returns-else-r
unfolding of_bits
returns-else-r c = wire_none _ _ _ _ _ _ c.requires.ready c.if-r.false
