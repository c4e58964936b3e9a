-- `replay::calls::append` meets its contract. Assumes nothing.
use borrow.Author.Rules.{rules}
use Rattle.replay.proofs.Leaves.{leaves}
use Rattle.replay.proofs.calls.append.Goals as goal

pub returns : goal.returns
returns c = leaves c.append-made.ensures c.edited.ensures
