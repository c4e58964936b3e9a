-- What the contracts of `shape` cite, and laws of it.
pub mod Rotated
pub mod Drawing
pub mod DrawingLaws
