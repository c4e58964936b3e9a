-- `outline::corner` meets its contract. Assumes nothing.
use Rattle.outline.specs.Corners.{point}
use mathlib.Core.Path.{refl}
use Rattle.outline.proofs.corner.Goals as goal

pub returns : goal.returns
unfolding point
returns c = refl
