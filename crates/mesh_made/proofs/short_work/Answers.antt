-- `mesh_made::short_work` meets its contract. Assumes nothing.
use mathlib.Core.Path.{refl}
use Rattle.mesh_made.specs.Made.{short_work}
use Rattle.mesh_made.proofs.short_work.Goals as goal

pub returns : goal.returns
unfolding short_work
returns c = refl
