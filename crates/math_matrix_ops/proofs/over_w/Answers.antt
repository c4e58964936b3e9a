-- `math_matrix_ops::over_w` meets its contract. Assumes nothing.
use lib.Ieee.{of_bits}
use Rattle.math_matrix.specs.Mat.{over_w}
use Rattle.math_matrix_ops.proofs.over_w.Goals as goal

pub returns-then-w : goal.returns-then-w
unfolding over_w of_bits
returns-then-w c = rw c.if-w.true

pub returns-else-w : goal.returns-else-w
unfolding over_w of_bits
returns-else-w c = rw c.if-w.false
