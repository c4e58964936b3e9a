-- What the contracts of the crate `weld_quad` cite.
pub mod Quads
