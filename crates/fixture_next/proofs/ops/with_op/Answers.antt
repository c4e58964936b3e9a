-- `fixture_next::ops::with_op` meets its contract. Assumes nothing.
use native.Mathlib.Omega.{arith}
use Rattle.fixture_next.proofs.Sixteen.{stored, kept}
use Rattle.fixture_next.proofs.ops.with_op.Goals as goal

pub returns-then-count-lt16 : goal.returns-then-count-lt16
returns-then-count-lt16 c = stored c.args.ops c.args.count c.args.op (omega arith)

pub returns-else-count-lt16 : goal.returns-else-count-lt16
returns-else-count-lt16 c = kept c.args.ops c.args.count c.args.op (omega arith)
