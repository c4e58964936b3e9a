-- `replay::calls::flip` meets its contract. Assumes nothing.
use borrow.Author.Rules.{rules}
use Rattle.replay.proofs.Leaves.{leaves}
use Rattle.replay.proofs.calls.flip.Goals as goal

pub returns : goal.returns
returns c = leaves c.flip-made.ensures c.edited.ensures
