-- `ieee::max` meets its contract. Assumes nothing.
use lib.Ieee as Ieee
use Rattle.ieee.specs.Number.{maximum}
use Rattle.ieee.specs.MinMax.{picks_second, picks_first, picks_other}
use Rattle.ieee.proofs.max.Goals as goal

pub returns-then-a-b : goal.returns-then-a-b
unfolding maximum
returns-then-a-b c = let args = c.args in picks_second args.a args.b (Ieee.lt args.a args.b) c.if-a-b.true

pub returns-then-a : goal.returns-then-a
unfolding maximum
returns-then-a c = let args = c.args in picks_first args.a args.b (Ieee.lt args.a args.b) c.if-a-b.false c.if-a.true

pub returns-else-a : goal.returns-else-a
unfolding maximum
returns-else-a c = let args = c.args in picks_other args.a args.b (Ieee.lt args.a args.b) c.if-a.false
