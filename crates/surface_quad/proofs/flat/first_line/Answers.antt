-- `surface_quad::flat::first_line` meets its contract. Assumes nothing.
use mathlib.Core.Path.{◌∙◌}
use mathlib.Core.Bool.{false}
use borrow.Author.Rules.{rules}
use Rattle.solid_spec.specs.ParamBox.{coord}
use Rattle.surface_quad.proofs.flat.first_line.Goals as goal

pub returns : goal.returns
returns c = c.coord.ensures ∙ (λ i. coord (c.axis.ensures i) (c.axis-2.ensures i) 1 false 0)
