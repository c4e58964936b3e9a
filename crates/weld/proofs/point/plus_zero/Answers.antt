-- `weld::point::plus_zero` meets its contract. Assumes nothing.
use mathlib.Core.Path.{refl}
use Rattle.mesh_spec.specs.Mesh.{plus_zero_v}
use Rattle.weld_vertex.proofs.Clean.{clean_after}
use Rattle.weld.proofs.point.plus_zero.Goals as goal

pub returns : goal.returns
unfolding plus_zero_v
returns c =
    let k = c.struct_known-3-1.given in
    (refl, clean_after _ k.0 k.1.0 k.1.1.0 c.requires)
