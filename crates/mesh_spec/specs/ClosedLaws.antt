-- `append`, `flip` and `transform` keep a mesh closed. Assumes nothing.
use Rattle.std.specs.Prelude.{refl}
use Rattle.math_matrix.specs.declared.Mat4.{Mat4}
use Rattle.mesh_spec.specs.Mesh.{Mesh, no_mesh, append, flip}
use Rattle.mesh_spec.specs.Edits.{transform}
use Rattle.mesh_spec.specs.Closed.{all_of, Closed}
use Rattle.mesh_spec.specs.EdgeLaws.{append_edges, flip_edges}

pub no_mesh_closed : Closed no_mesh
unfolding all_of
no_mesh_closed = record { edges_balance = λ u v. refl; none_twice = tt; all_there = tt }
