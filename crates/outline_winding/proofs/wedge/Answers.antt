-- `outline_winding::wedge` meets its contract. Assumes nothing.
use Rattle.outline.specs.Area.{wedge}
use mathlib.Core.Path.{refl}
use Rattle.outline_winding.proofs.wedge.Goals as goal

pub returns : goal.returns
unfolding wedge
returns c = refl
