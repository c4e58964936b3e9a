-- Laws that the proofs of `solid_caps` use.
pub mod CapRuns
