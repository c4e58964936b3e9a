-- `shape_arc::arc_share` meets its contract. Assumes nothing.
use Rattle.shape_arc.specs.Arc.{arc_share}
use Rattle.ieee.specs.Ends.{of_nat_in}
use native.Mathlib.Omega.{arith}
use borrow.Author.Rules.{rules}
use Rattle.shape_arc.proofs.arc_share.Goals as goal

pub int_to_float-full : goal.int_to_float-full
int_to_float-full c = of_nat_in _ (omega arith)

pub returns : goal.returns
unfolding arc_share
returns c = search rules
