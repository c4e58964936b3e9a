-- Laws that the proofs of `fixture_solid` cite.
pub mod Arms
pub mod Lists
