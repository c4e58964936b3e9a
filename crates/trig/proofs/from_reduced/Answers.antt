-- `trig::from_reduced` meets its contract, by those of what it calls. Assumes nothing.
use mathlib.Core.Path.{◌∙◌}
use lib.Ieee.{binary64, mul}
use Rattle.trig_spec.specs.Formula.{quadrant, from_reduced}
use Rattle.trig.proofs.from_reduced.Goals as goal

pub returns : goal.returns
unfolding from_reduced
returns c =
    let a = c.args in
    c.in_quadrant.ensures ∙ (λ i. quadrant a.k (mul binary64 a.r (c.sine_sum.ensures i)) (c.cosine_sum-c.ensures i))
