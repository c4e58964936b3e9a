-- `outline_winding::plane_axes` meets its contract. Assumes nothing.
use Rattle.outline.specs.Axes.{plane_axes}
use mathlib.Core.Path.{refl}
use borrow.Author.Rules.{rules}
use Rattle.outline_winding.proofs.plane_axes.Goals as goal

pub returns : goal.returns
unfolding plane_axes
returns c = refl
