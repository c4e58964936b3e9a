-- `solid_cylinder::cylinder::weld_cylinder` meets its contract. Assumes nothing.
use Rattle.solid_cylinder.proofs.CylinderRuns.{cylinder_short, cylinder_thin, cylinder_runs}
use lib.Ieee.{of_bits}
use borrow.Author.Rules.{rules}
use Rattle.solid_cylinder.proofs.cylinder.weld_cylinder.Goals as goal

pub returns-then-len : goal.returns-then-len
unfolding of_bits
returns-then-len c = cylinder_short _ _ _ _ _ _ _ _ c.requires.ready c.sub-v.ensures c.norm-len.ensures c.if-len.true

pub returns-then-r1 : goal.returns-then-r1
unfolding of_bits
returns-then-r1 c = cylinder_thin _ _ _ _ _ _ _ _ c.requires.ready c.sub-v.ensures c.norm-len.ensures c.if-len.false c.if-r1.true

pub returns : goal.returns
unfolding of_bits
returns c = cylinder_runs _ _ _ _ _ _ _ _ _ _ c.sub-v.ensures
    c.norm-len.ensures c.if-len.false c.if-r1.false c.div-d.ensures c.weld_tube.ensures
