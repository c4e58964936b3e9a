-- `append`, `flip` and `transform` keep the edges of a mesh balanced. Assumes nothing.
use Rattle.std.specs.Prelude.{◌≡◌, Bool, true, false, ◌&&◌, cond, ◌∷◌, ◌++◌, ◌+◌, ◌-◌, ◌≤◌, ◌<◌}
use Rattle.std.proofs.Common.{◌∙◌}
use Rattle.std.specs.Float.{binary64}
use Rattle.std.specs.Float.Ieee.{lt, of_bits}
use Rattle.math_matrix.specs.declared.Mat4.{Mat4}
use Rattle.math_matrix.specs.Mat.{determinant}
use Rattle.mesh_balance_spec.specs.Count.{EdgesBalance}
use Rattle.mesh_spec.specs.Mesh.{Mesh, flip}
use Rattle.mesh_spec.specs.Edits.{moved, transform}
use Rattle.mesh_spec.specs.EdgeLaws.{flip_edges}

pub transform_edges : (a : Mat4) (m : Mesh) → EdgesBalance m.triangles → EdgesBalance (transform a m).triangles
unfolding transform moved
transform_edges a m h = go (lt (determinant a) (of_bits binary64 0))
  where
    go : (b : Bool) → EdgesBalance (cond b (flip (moved a m)) (moved a m)).triangles
    go true = flip_edges (moved a m) h
    go false = h
