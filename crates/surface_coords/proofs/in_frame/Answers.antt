-- `surface_coords::in_frame` meets its contract. Assumes nothing.
use mathlib.Core.Path.{◌∙◌}
use Rattle.math.specs.Vec.{v_add}
use Rattle.surface_coords.specs.Pieces.{in_frame}
use borrow.Author.Rules.{rules}
use Rattle.surface_coords.proofs.in_frame.Goals as goal

pub returns : goal.returns
unfolding in_frame
returns c = c.add.ensures ∙ (λ i. v_add (c.mul.ensures i) (c.mul-2.ensures i))
