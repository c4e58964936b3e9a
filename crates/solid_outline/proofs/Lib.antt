-- Laws that the proofs of `solid_outline` use.
pub mod Numbers
pub mod OutlineRuns
