-- `surface_coords::around_axis_by` meets its contract. Assumes nothing.
use mathlib.Core.Path.{◌∙◌}
use Rattle.math.specs.Vec.{v_add, v_mul}
use Rattle.surface_coords.specs.Pieces.{in_frame, around_axis_by}
use borrow.Author.Rules.{rules}
use Rattle.surface_coords.proofs.around_axis_by.Goals as goal

pub returns : goal.returns
unfolding around_axis_by in_frame
returns c =
    let s = c.args in
    let m = c.add-along.ensures ∙ (λ i. v_add s.a (c.mul.ensures i)) in
    let n = c.mul-2.ensures ∙ (λ i. v_mul (c.in_frame.ensures i) s.x) in
    c.add.ensures ∙ (λ i. v_add (m i) (n i))
