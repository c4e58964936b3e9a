-- `solid_parts::wire::weld_tube_part` meets its contract. Assumes nothing.
use native.Mathlib.Omega.{arith}
use lib.Ieee.{of_bits}
use Rattle.solid_parts.proofs.PartRuns.{tube_part}
use Rattle.solid_parts.proofs.wire.weld_tube_part.Goals as goal

pub wire_point-a-requires : goal.wire_point-a-requires
wire_point-a-requires c = omega (arith, c.requires.segments_bound.1)

pub overflow_add-i : goal.overflow_add-i
overflow_add-i c = omega (arith, c.requires.segments_bound.1)

pub wire_point-b-requires : goal.wire_point-b-requires
wire_point-b-requires c = omega (arith, c.requires.segments_bound.1)

pub weld_cylinder-requires : goal.weld_cylinder-requires
weld_cylinder-requires c = record { ready = c.requires.ready; segments_bound = c.requires.segments_bound.0 }

pub returns : goal.returns
unfolding of_bits
returns c = tube_part _ _ _ _ _ _ _ _ _ _ c.wire_point-a.ensures c.wire_point-b.ensures c.weld_cylinder.ensures c.new_part.ensures
