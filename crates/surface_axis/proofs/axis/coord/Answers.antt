-- `surface_axis::axis::coord` meets its contract. Assumes nothing.
use Rattle.solid_spec.proofs.Coord.{coord_wrapped, coord_last, coord_inside}
use Rattle.ieee.specs.Ends.{of_nat_in}
use native.Mathlib.Omega.{arith}
use Rattle.surface_axis.proofs.axis.coord.Goals as goal

pub int_to_float-result : goal.int_to_float-result
int_to_float-result c = of_nat_in _ (omega arith)

pub int_to_float-result-else-i-n : goal.int_to_float-result-else-i-n
int_to_float-result-else-i-n c = of_nat_in _ (omega arith)

pub returns-then-periodic : goal.returns-then-periodic
returns-then-periodic c = coord_wrapped _ _ _ _ _ c.if-i-n.true c.if-periodic.true

pub returns-else-periodic : goal.returns-else-periodic
returns-else-periodic c = coord_last _ _ _ _ _ c.if-i-n.true c.if-periodic.false

pub returns-else-i-n : goal.returns-else-i-n
returns-else-i-n c = coord_inside _ _ _ _ _ c.if-i-n.false
