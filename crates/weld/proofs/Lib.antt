-- Laws that the proofs of the functions use.
pub mod Places
pub mod InRows
pub mod Parts
