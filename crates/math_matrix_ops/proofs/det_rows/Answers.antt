-- `math_matrix_ops::det_rows` meets its contract. Assumes nothing.
use mathlib.Core.Path.{refl}
use Rattle.math_matrix.specs.Mat.{det_rows}
use Rattle.math_matrix_ops.proofs.det_rows.Goals as goal

pub returns : goal.returns
unfolding det_rows
returns c = refl
