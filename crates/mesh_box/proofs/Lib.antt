-- Laws of the box, for the proofs of loops that gather one.
pub mod Including
pub mod FiniteFloats
