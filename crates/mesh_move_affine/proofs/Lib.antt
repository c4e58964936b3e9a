-- Laws that the proofs of `mesh_move_affine` share, and those of `mesh_move`.
pub mod Gathering
pub mod AffineLaws
pub mod BoundedLaws
