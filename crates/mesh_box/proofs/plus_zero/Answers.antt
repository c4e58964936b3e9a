-- `mesh_box::plus_zero` meets its contract. Assumes nothing.
use mathlib.Core.Path.{refl}
use Rattle.mesh_spec.specs.Mesh.{plus_zero_v}
use Rattle.mesh_spec.specs.Measures.{plus_zero_box}
use Rattle.mesh_box.proofs.plus_zero.Goals as goal

pub returns : goal.returns
unfolding plus_zero_box plus_zero_v
returns c = refl
