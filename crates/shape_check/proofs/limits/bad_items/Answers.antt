-- `shape_check::limits::bad_items` meets its contract. Assumes nothing.
use borrow.Author.Rules.{rules}
use mathlib.Core.Path.{refl}
use Rattle.shape.specs.Drawing.{bad_items}
use Rattle.shape_check.proofs.limits.bad_items.Goals as goal

pub returns : goal.returns
unfolding bad_items
returns c = refl
