-- `outline_ears::previous` meets its contract. Assumes nothing.
use native.Mathlib.Omega.{arith}
use Rattle.outline_ears.proofs.Laws.{previous_of_first, previous_of_later}
use Rattle.outline_ears.proofs.previous.Goals as goal

pub returns-then-k-eq0 : goal.returns-then-k-eq0
returns-then-k-eq0 c = (previous_of_first _ _ (omega arith) (omega arith), omega arith)

pub returns : goal.returns
returns c = (previous_of_later _ _ (omega arith) (omega arith), omega arith)
