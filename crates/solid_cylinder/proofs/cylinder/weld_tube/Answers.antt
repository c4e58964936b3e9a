-- `solid_cylinder::cylinder::weld_tube` meets its contract. Assumes nothing.
use lib.Ieee.{of_bits}
use Rattle.solid_cylinder.proofs.CylinderRuns.{tube_runs}
use borrow.Author.Rules.{rules}
use Rattle.solid_cylinder.proofs.cylinder.weld_tube.Goals as goal

pub returns : goal.returns
unfolding of_bits
returns c = tube_runs _ _ _ _ _ _ _ _ _ _ _ _ c.max-inner.ensures c.max-n.ensures c.frame1-e1.ensures c.frame2-e2.ensures c.weld_param_box.ensures
