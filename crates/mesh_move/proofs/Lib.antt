-- Laws that the proofs of `mesh_move` share.
pub mod Moving
