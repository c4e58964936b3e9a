-- Laws that the proofs of `weld_from_soup` use.
pub mod SoupRuns
