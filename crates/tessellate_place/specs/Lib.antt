-- What the contracts of `tessellate_place` cite.
pub mod Ends
