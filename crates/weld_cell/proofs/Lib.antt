-- Laws that the proofs of the functions use.
pub mod Turned
pub mod Side
