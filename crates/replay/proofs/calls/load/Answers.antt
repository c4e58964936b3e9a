-- `replay::calls::load` meets its contract. Assumes nothing.
use mathlib.Core.Path.{◌∙◌}
use borrow.Author.Rules.{rules}
use Rattle.replay.proofs.calls.load.Goals as goal

pub returns : goal.returns
returns c = c.edited.ensures ∙ c.claimed_mesh-m.ensures
