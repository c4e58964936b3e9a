-- Laws that the proofs of `tessellate_place` use.
pub mod Turning
pub mod Moving
