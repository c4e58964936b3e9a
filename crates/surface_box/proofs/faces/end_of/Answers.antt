-- `surface_box::faces::end_of` meets its contract. Assumes nothing.
use Rattle.surface_box.proofs.Choices.{chosen, other}
use borrow.Author.Rules.{rules}
use Rattle.surface_box.proofs.faces.end_of.Goals as goal

pub returns-then-side : goal.returns-then-side
returns-then-side c = chosen _ _ _ _ c.if-side.true c.axis.ensures

pub returns-else-side : goal.returns-else-side
returns-else-side c = other _ _ _ _ c.if-side.false c.axis-else-side.ensures
