-- The definitions that the contracts of `shape_arc` cite, and laws of them.
pub mod Arc
pub mod ArcLaws
