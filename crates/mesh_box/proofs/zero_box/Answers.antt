-- `mesh_box::zero_box` meets its contract. Assumes nothing.
use mathlib.Core.Path.{refl}
use Rattle.mesh_box.specs.ZeroBox.{zero_box}
use Rattle.mesh_box.proofs.zero_box.Goals as goal

pub returns : goal.returns
unfolding zero_box
returns c = refl
