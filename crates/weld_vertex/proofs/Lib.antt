-- Laws of points, for the proofs of the crates above.
pub mod At
pub mod Clean
pub mod Places
