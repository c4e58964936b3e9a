-- What the proofs of `shape_angles` share.
pub mod Cases
pub mod Loops
