-- `outline_triangle::cross` meets its contract. Assumes nothing.
use Rattle.outline_triangle.specs.Triangle.{cross}
use mathlib.Core.Path.{refl}
use Rattle.outline_triangle.proofs.cross.Goals as goal

pub returns : goal.returns
unfolding cross
returns c = refl
