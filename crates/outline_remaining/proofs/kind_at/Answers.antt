-- `outline_remaining::kind_at` meets its contract. Assumes nothing.
use Rattle.outline_remaining.proofs.Kept.{kind_is}
use borrow.Author.Rules.{rules}
use Rattle.outline_remaining.proofs.kind_at.Goals as goal

pub returns : goal.returns
returns c = kind_is _ _ _ _ c.triangle_at-t.ensures c.cross.ensures c.kind_of.ensures
