-- `math_matrix_ops::times_rows` meets its contract. Assumes nothing.
use Rattle.math_matrix.specs.Mat.{product_entry, times_rows}
use borrow.Author.Rules.{rules}
use Rattle.math_matrix_ops.proofs.times_rows.Goals as goal

pub returns : goal.returns
unfolding times_rows product_entry
returns c = λ i. record {
  x = c.product_entry.ensures i;
  y = c.product_entry-2.ensures i;
  z = c.product_entry-3.ensures i;
  w = c.product_entry-4.ensures i;
}
