-- Laws of the sums, for the proofs of `mesh_sums` and of its callers.
pub mod Terms
