-- Laws that the proofs of `tessellate` use.
pub mod Floats
