-- Laws that the proofs of `fixture_next` cite.
pub mod Here
pub mod Reading
pub mod Sixteen
pub mod Jobs
