-- `ieee::min` meets its contract. Assumes nothing.
use lib.Ieee as Ieee
use Rattle.ieee.specs.Number.{minimum}
use Rattle.ieee.specs.MinMax.{picks_second, picks_first, picks_other}
use Rattle.ieee.proofs.min.Goals as goal

pub returns-then-b-a : goal.returns-then-b-a
unfolding minimum
returns-then-b-a c = let args = c.args in picks_second args.a args.b (Ieee.lt args.b args.a) c.if-b-a.true

pub returns-then-a : goal.returns-then-a
unfolding minimum
returns-then-a c = let args = c.args in picks_first args.a args.b (Ieee.lt args.b args.a) c.if-b-a.false c.if-a.true

pub returns-else-a : goal.returns-else-a
unfolding minimum
returns-else-a c = let args = c.args in picks_other args.a args.b (Ieee.lt args.b args.a) c.if-a.false
