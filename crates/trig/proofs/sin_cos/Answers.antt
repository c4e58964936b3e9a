-- `trig::sin_cos` meets its contract, by those of what it calls and `answer`. Assumes nothing.
use mathlib.Core.Path.{sym, ap, subst, ◌∙◌}
use lib.Dec.{T}
use lib.Ieee.{Float}
use Rattle.trig_spec.specs.Formula.{const_h, from_reduced}
use Rattle.trig.proofs.Quarters.{answer}
use Rattle.trig.proofs.sin_cos.Goals as goal

pub returns-then-is_quarter_point : goal.returns-then-is_quarter_point
unfolding const_h
returns-then-is_quarter_point c =
    let start = c in
    let w = c.nearest_whole-w in
    let test = sym c.if-is_quarter_point.true ∙ c.is_quarter_point.ensures in
    answer start.args.x (subst T (sym start.well_formed.0.1) tt) w.result _ _ w.ensures test c.on_axis.ensures

pub returns-else-is_quarter_point : goal.returns-else-is_quarter_point
unfolding const_h
returns-else-is_quarter_point c =
    let start = c in
    let w = c.nearest_whole-w in
    let test = sym c.if-is_quarter_point.false ∙ c.is_quarter_point.ensures in
    answer start.args.x (subst T (sym start.well_formed.0.1) tt) w.result _ _ w.ensures test
    (c.from_reduced.ensures ∙ ap (λ (r : Float). from_reduced r w.result.mod_4) c.reduce.ensures)
