-- `transform` of `impl TriMesh` in src/tessellate.rs; `append` and `flip` are in Mesh. Definitions only.
use Rattle.std.specs.Prelude.{cond, map}
use Rattle.std.specs.Float.{binary64}
use Rattle.std.specs.Float.Ieee.{lt, of_bits}
use Rattle.math_matrix.specs.declared.Mat4.{Mat4}
use Rattle.math_matrix.specs.Mat.{transform_point, determinant}
use Rattle.mesh_spec.specs.Mesh.{Mesh, flip}

-- the first loop of TriMesh::transform: `*v = m.transform_point(*v)` for every vertex
unfoldable pub moved : Mat4 → Mesh → Mesh
moved a m = record { vertices = map (transform_point a) m.vertices; triangles = m.triangles }

-- TriMesh::transform: the triangles are flipped where the determinant is below 0
unfoldable pub transform : Mat4 → Mesh → Mesh
unfolding moved flip
transform a m = cond (lt (determinant a) (of_bits binary64 0)) (flip (moved a m)) (moved a m)
