-- `surface_coords::frame2` meets its contract. Assumes nothing.
use mathlib.Core.Path.{◌∙◌}
use Rattle.math.specs.Vec.{cross}
use Rattle.solid_spec.specs.Cylinder.{frame2}
use borrow.Author.Rules.{rules}
use Rattle.surface_coords.proofs.frame2.Goals as goal

pub returns : goal.returns
unfolding frame2
returns c = c.cross.ensures ∙ (λ i. cross c.args.d (c.frame1.ensures i))
