-- `surface_coords::cylindrical_by` meets its contract. Assumes nothing.
use Rattle.surface_coords.specs.Pieces.{cylindrical_by}
use mathlib.Core.Path.{refl}
use Rattle.surface_coords.proofs.cylindrical_by.Goals as goal

pub returns : goal.returns
unfolding cylindrical_by
returns c = refl
