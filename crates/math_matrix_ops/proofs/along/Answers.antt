-- `math_matrix_ops::along` meets its contract. Assumes nothing.
use mathlib.Core.Path.{refl}
use Rattle.math_matrix.specs.Mat.{along}
use Rattle.math_matrix_ops.proofs.along.Goals as goal

pub returns : goal.returns
unfolding along
returns c = refl
