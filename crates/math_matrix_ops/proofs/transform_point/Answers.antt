-- `math_matrix_ops::transform_point` meets its contract. Assumes nothing.
use mathlib.Core.Path.{◌∙◌}
use borrow.Author.Rules.{rules}
use Rattle.math_matrix.specs.Mat.{along, over_w, transform_point}
use Rattle.math_matrix_ops.proofs.transform_point.Goals as goal

pub returns : goal.returns
unfolding transform_point
returns c =
    let p = c.args.p in
    let x = c.along-x.ensures ∙ (λ i. along (c.row_of.ensures i) p) in
    let y = c.along-y.ensures ∙ (λ i. along (c.row_of-2.ensures i) p) in
    let z = c.along-z.ensures ∙ (λ i. along (c.row_of-3.ensures i) p) in
    let w = c.along-w.ensures ∙ (λ i. along (c.row_of-4.ensures i) p) in
    c.over_w.ensures ∙ (λ i. over_w (x i) (y i) (z i) (w i))
