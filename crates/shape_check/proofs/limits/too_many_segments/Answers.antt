-- `shape_check::limits::too_many_segments` meets its contract. Assumes nothing.
use mathlib.Core.Path.{refl}
use Rattle.shape.specs.Drawing.{too_many_segments}
use Rattle.shape_check.proofs.limits.too_many_segments.Goals as goal

pub returns : goal.returns
unfolding too_many_segments
returns c = refl
