-- `transform_check::op_finite` meets its contract. Assumes nothing.
use borrow.Author.Rules.{rules}
use mathlib.Core.Path.{sym, ap, ap₂, ◌∙◌}
use mathlib.Core.Bool.{◌&&◌}
use Rattle.transform.specs.Checks.{op_finite}
use Rattle.transform_check.proofs.op_finite.Goals as goal

pub returns-in-Translate : goal.returns-in-Translate
unfolding op_finite
returns-in-Translate c = c.is_finite.ensures ∙ sym (ap op_finite c.in-Translate.is)

pub returns-in-RotateOrigin : goal.returns-in-RotateOrigin
unfolding op_finite
returns-in-RotateOrigin c = ap₂ ◌&&◌ c.is_finite-in-RotateOrigin.ensures c.is_finite-in-RotateOrigin-2.ensures ∙ sym (ap op_finite c.in-RotateOrigin.is)

pub returns-in-RotateX : goal.returns-in-RotateX
unfolding op_finite
returns-in-RotateX c = c.is_finite-in-RotateX.ensures ∙ sym (ap op_finite c.in-RotateX.is)

pub returns-in-RotateY : goal.returns-in-RotateY
unfolding op_finite
returns-in-RotateY c = c.is_finite-in-RotateY.ensures ∙ sym (ap op_finite c.in-RotateY.is)

pub returns-in-RotateZ : goal.returns-in-RotateZ
unfolding op_finite
returns-in-RotateZ c = c.is_finite-in-RotateZ.ensures ∙ sym (ap op_finite c.in-RotateZ.is)

pub returns-in-Scale : goal.returns-in-Scale
unfolding op_finite
returns-in-Scale c = c.is_finite-in-Scale.ensures ∙ sym (ap op_finite c.in-Scale.is)

pub returns-in-Scale3 : goal.returns-in-Scale3
unfolding op_finite
returns-in-Scale3 c = c.is_finite-in-Scale3.ensures ∙ sym (ap op_finite c.in-Scale3.is)

pub returns-in-Matrix : goal.returns-in-Matrix
unfolding op_finite
returns-in-Matrix c =
    ap₂ ◌&&◌
    (ap₂ ◌&&◌ (ap₂ ◌&&◌ c.row_finite.ensures c.row_finite-in-Matrix.ensures) c.row_finite-in-Matrix-2.ensures)
    c.row_finite-in-Matrix-3.ensures
    ∙ sym (ap op_finite c.in-Matrix.is)
