-- Laws that the proofs of `fixture_field` cite, and those of the crates that walk over fields.
pub mod Cut
pub mod Walk
