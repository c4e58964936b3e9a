-- `shape_arc::is_full` meets its contract. Assumes nothing.
use mathlib.Core.Path.{refl}
use Rattle.shape_arc.specs.Arc.{is_full, full_span}
use Rattle.shape_arc.proofs.is_full.Goals as goal

pub returns : goal.returns
unfolding is_full full_span
returns c = refl
