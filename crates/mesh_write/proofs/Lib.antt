-- Laws that the proofs of `mesh_write` share.
pub mod Copies
