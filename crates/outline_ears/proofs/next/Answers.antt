-- `outline_ears::next` meets its contract. Assumes nothing.
use native.Mathlib.Omega.{arith}
use Rattle.outline_ears.proofs.Laws.{next_of_last, next_of_earlier}
use Rattle.outline_ears.proofs.next.Goals as goal

pub returns-then-k-m : goal.returns-then-k-m
returns-then-k-m c = (next_of_last _ _ (omega arith), omega arith)

pub returns : goal.returns
returns c = (next_of_earlier _ _ (omega arith), omega arith)
