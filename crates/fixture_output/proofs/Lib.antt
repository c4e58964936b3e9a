-- Laws of the output's bytes that the proofs of the functions cite.
pub mod More
pub mod End
pub mod Added
pub mod Finished
