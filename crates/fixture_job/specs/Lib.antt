-- What the contract of `fixture_job` cites.
pub mod Drawable
