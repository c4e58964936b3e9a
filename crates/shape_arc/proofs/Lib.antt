-- What the proofs of `shape_arc` share.
pub mod Spans
pub mod ArcLawsHeld
