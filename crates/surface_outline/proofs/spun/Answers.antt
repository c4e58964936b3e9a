-- `surface_outline::spun` meets its contract. Assumes nothing.
use mathlib.Core.Path.{◌∙◌}
use Rattle.math.specs.Vec.{v_add, v_mul}
use Rattle.surface_outline.specs.Pieces.{radial}
use Rattle.solid_spec.specs.Outline.{spun}
use borrow.Author.Rules.{rules}
use Rattle.surface_outline.proofs.spun.Goals as goal

pub returns : goal.returns
unfolding spun radial
returns c =
    let p = c.args.c in
    let m = c.mul-along.ensures ∙ (λ i. v_mul (c.unit.ensures i) p.y) in
    let n = c.mul.ensures ∙ (λ i. v_mul (c.radial.ensures i) p.x) in
    c.add.ensures ∙ (λ i. v_add (m i) (n i))
