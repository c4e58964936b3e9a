-- What the proofs of `shape` share.
pub mod Tags
