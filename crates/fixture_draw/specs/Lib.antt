-- What the contracts of `fixture_draw` cite.
pub mod Drawing
