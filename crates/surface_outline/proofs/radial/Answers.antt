-- `surface_outline::radial` meets its contract. Assumes nothing.
use mathlib.Core.Path.{◌∙◌}
use Rattle.math.specs.Vec.{v_add, v_mul, cross}
use Rattle.surface_outline.specs.Pieces.{radial}
use borrow.Author.Rules.{rules}
use Rattle.surface_outline.proofs.radial.Goals as goal

pub returns : goal.returns
unfolding radial
returns c =
    let t = c.args.t in
    let u = c.unit-u.ensures in
    let w = c.cross-w.ensures ∙ (λ i. cross (c.unit.ensures i) (u i)) in
    let m = c.mul.ensures ∙ (λ i. v_mul (u i) t.cos) in
    let n = c.mul-2.ensures ∙ (λ i. v_mul (w i) t.sin) in
    c.add.ensures ∙ (λ i. v_add (m i) (n i))
