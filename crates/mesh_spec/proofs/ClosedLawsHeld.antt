-- `append`, `flip` and `transform` keep a mesh closed. Assumes nothing.
use Rattle.math_matrix.specs.declared.Mat4.{Mat4}
use Rattle.mesh_spec.specs.Mesh.{Mesh, append, flip}
use Rattle.mesh_spec.specs.Edits.{transform}
use Rattle.mesh_spec.specs.Closed.{Closed}
use Rattle.mesh_spec.specs.EdgeLaws.{append_edges, flip_edges}
use Rattle.mesh_spec.proofs.EdgeLawsHeld.{transform_edges}
use Rattle.mesh_spec.proofs.ProperLawsHeld.{append_none_twice, flip_none_twice, transform_none_twice, append_all_there, flip_all_there, transform_all_there}

pub append_closed : (m o : Mesh) → Closed m → Closed o → Closed (append m o)
append_closed m o h k = record {
  edges_balance = append_edges m o h.edges_balance k.edges_balance;
  none_twice = append_none_twice m o h.none_twice k.none_twice;
  all_there = append_all_there m o h.all_there k.all_there;
}

pub flip_closed : (m : Mesh) → Closed m → Closed (flip m)
flip_closed m h = record {
  edges_balance = flip_edges m h.edges_balance;
  none_twice = flip_none_twice m h.none_twice;
  all_there = flip_all_there m h.all_there;
}

pub transform_closed : (a : Mat4) (m : Mesh) → Closed m → Closed (transform a m)
transform_closed a m h = record {
  edges_balance = transform_edges a m h.edges_balance;
  none_twice = transform_none_twice a m h.none_twice;
  all_there = transform_all_there a m h.all_there;
}
