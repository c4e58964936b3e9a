-- `math_matrix_ops::product` meets its contract. Assumes nothing.
use mathlib.Core.Path.{◌∙◌}
use borrow.Author.Rules.{rules}
use Rattle.math_matrix.specs.Mat.{product_row, product}
use Rattle.math_matrix.specs.MatLaws.{made}
use Rattle.math_matrix_ops.proofs.product.Goals as goal

pub returns : goal.returns
unfolding product
returns c =
    let o = c.args.o in
    made
    (c.product_row-p.ensures ∙ (λ i. product_row (c.row_of.ensures i) o))
    (c.product_row-q.ensures ∙ (λ i. product_row (c.row_of-2.ensures i) o))
    (c.product_row-r.ensures ∙ (λ i. product_row (c.row_of-3.ensures i) o))
    (c.product_row-s.ensures ∙ (λ i. product_row (c.row_of-4.ensures i) o))
    c.from_rows.ensures
