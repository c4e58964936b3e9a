-- Laws of a mesh in lent slices and of its checks, for the proofs of `mesh_check` and of the crates above it.
pub mod Sound
pub mod Stored
pub mod Lying
pub mod Tests
