-- `math_norm::cross` meets its contract. Assumes nothing.
use mathlib.Core.Path.{refl}
use Rattle.math.specs.Vec.{cross}
use Rattle.math_norm.proofs.cross.Goals as goal

pub returns : goal.returns
unfolding cross
returns c = refl
