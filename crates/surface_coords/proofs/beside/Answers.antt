-- `surface_coords::beside` meets its contract. Assumes nothing.
use Rattle.surface_coords.proofs.Cases.{beside_x, beside_y}
use borrow.Author.Rules.{rules}
use Rattle.surface_coords.proofs.beside.Goals as goal

pub returns-then-abs : goal.returns-then-abs
returns-then-abs c = beside_x _ _ _ c.abs.ensures c.if-abs.true c.unit.ensures

pub returns-else-abs : goal.returns-else-abs
returns-else-abs c = beside_y _ _ _ c.abs.ensures c.if-abs.false c.unit-else-abs.ensures
