-- `slice_byte_turn::exchange` meets its contract. Assumes nothing.
use Rattle.slice_byte_turn.specs.Turn.{exchanged}
use borrow.Author.Rules.{rules}
use Rattle.slice_byte_turn.proofs.exchange.Goals as goal

pub returns : goal.returns
unfolding exchanged
returns c = cc
