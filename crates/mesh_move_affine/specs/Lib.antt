-- What the contracts of `mesh_move_affine` and of crates above it cite.
pub mod Affine
