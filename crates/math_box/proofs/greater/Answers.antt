-- `math_box::greater` meets its contract. Assumes nothing.
use lib.Ieee.{lt}
use Rattle.ieee.specs.Number.{maximum}
use Rattle.ieee.specs.MinMax.{picks_second, picks_first}
use Rattle.math_box.specs.NoNanLaws.{equals_itself}
use Rattle.math_box.proofs.greater.Goals as goal

pub returns-then-a-b : goal.returns-then-a-b
unfolding maximum
returns-then-a-b c = let args = c.args in picks_second args.a args.b (lt args.a args.b) c.if-a-b.true

pub returns-else-a-b : goal.returns-else-a-b
unfolding maximum
returns-else-a-b c = let args = c.args in picks_first args.a args.b (lt args.a args.b) c.if-a-b.false (equals_itself args.a c.requires)
