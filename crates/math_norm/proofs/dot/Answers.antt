-- `math_norm::dot` meets its contract. Assumes nothing.
use mathlib.Core.Path.{refl}
use Rattle.math.specs.Vec.{dot}
use Rattle.math_norm.proofs.dot.Goals as goal

pub returns : goal.returns
unfolding dot
returns c = refl
