-- `figures_points::put_corner_at` meets its contract. Assumes nothing.
use borrow.Author.Tests.{le-leb, lt-leb}
use Rattle.figures_points.proofs.Cases.{no_corner, corner_text}
use borrow.Author.Rules.{rules}
use Rattle.figures_points.proofs.put_corner_at.Goals as goal

pub returns-then-v-i : goal.returns-then-v-i
returns-then-v-i c = no_corner _ _ (le-leb _ _ c.if-v-i.true) _

pub returns : goal.returns
returns c = corner_text _ _ (lt-leb _ _ c.if-v-i.false) c.put_corner.ensures
