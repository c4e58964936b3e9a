-- What the contracts of `fixture_output` cite, and a law of it.
pub mod Laid
pub mod LaidLaws
