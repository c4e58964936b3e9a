-- `replay::calls::transform` meets its contract. Assumes nothing.
use borrow.Author.Rules.{rules}
use Rattle.replay.proofs.Leaves.{leaves}
use Rattle.replay.proofs.calls.transform.Goals as goal

pub returns : goal.returns
returns c = leaves c.transform-made.ensures c.edited.ensures
