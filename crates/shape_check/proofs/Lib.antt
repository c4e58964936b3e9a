-- What the proofs of `shape_check` share.
pub mod Order
