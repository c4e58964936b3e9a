-- `math_rotation::rotation` meets its contract. Assumes nothing.
use mathlib.Core.Path.{◌∙◌}
use borrow.Author.Rules.{rules}
use Rattle.math_rotation.specs.Rotation.{turn, rotation}
use Rattle.math_rotation.proofs.rotation.Goals as goal

pub returns : goal.returns
unfolding rotation
returns c =
    let p = c.sin_cos-p.ensures.value in
    c.turn.ensures ∙ (λ i. turn (c.normalized.ensures i) (p i).sin (p i).cos)
