-- `surface_coords::to_cartesian` meets its contract. Assumes nothing.
use Rattle.surface_coords.proofs.Cases.{cartesian_of, cartesian_as}
use borrow.Author.Rules.{rules}
use Rattle.surface_coords.proofs.to_cartesian.Goals as goal

pub returns-then-cylindrical : goal.returns-then-cylindrical
returns-then-cylindrical c = cartesian_of _ _ _ c.if-cylindrical.true c.cylindrical_to_cartesian.ensures

pub returns-else-cylindrical : goal.returns-else-cylindrical
returns-else-cylindrical c = cartesian_as _ _ c.if-cylindrical.false
