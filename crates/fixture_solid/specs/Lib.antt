-- What the contracts of `fixture_solid` cite.
pub mod Field
