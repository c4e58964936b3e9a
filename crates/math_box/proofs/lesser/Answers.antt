-- `math_box::lesser` meets its contract. Assumes nothing.
use lib.Ieee.{lt}
use Rattle.ieee.specs.Number.{minimum}
use Rattle.ieee.specs.MinMax.{picks_second, picks_first}
use Rattle.math_box.specs.NoNanLaws.{equals_itself}
use Rattle.math_box.proofs.lesser.Goals as goal

pub returns-then-b-a : goal.returns-then-b-a
unfolding minimum
returns-then-b-a c = let args = c.args in picks_second args.a args.b (lt args.b args.a) c.if-b-a.true

pub returns-else-b-a : goal.returns-else-b-a
unfolding minimum
returns-else-b-a c = let args = c.args in picks_first args.a args.b (lt args.b args.a) c.if-b-a.false (equals_itself args.a c.requires)
