-- Laws that the proofs of `solid_parts` use.
pub mod PartRuns
