-- Laws of the counts and of the test, for the proofs of `mesh_closed`.
pub mod Counts
pub mod ClosedTests
