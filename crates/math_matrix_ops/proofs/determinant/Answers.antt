-- `math_matrix_ops::determinant` meets its contract. Assumes nothing.
use mathlib.Core.Path.{◌∙◌}
use borrow.Author.Rules.{rules}
use Rattle.math_matrix.specs.Mat.{det_rows, determinant}
use Rattle.math_matrix_ops.proofs.determinant.Goals as goal

pub returns : goal.returns
unfolding determinant
returns c = c.det_rows.ensures ∙ (λ i. det_rows (c.row_of.ensures i) (c.row_of-2.ensures i) (c.row_of-3.ensures i))
