-- `math_matrix_ops::product_row` meets its contract. Assumes nothing.
use mathlib.Core.Path.{◌∙◌}
use borrow.Author.Rules.{rules}
use Rattle.math_matrix.specs.Mat.{times_rows, product_row}
use Rattle.math_matrix_ops.proofs.product_row.Goals as goal

pub returns : goal.returns
unfolding product_row
returns c =
    let p = c in
    c.times_rows.ensures
    ∙ (λ i. times_rows p.args.r (p.row_of.ensures i) (c.row_of-2.ensures i) (c.row_of-3.ensures i)
    (c.row_of-4.ensures i))
