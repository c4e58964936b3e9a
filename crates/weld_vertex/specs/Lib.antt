-- What the contracts of `weld_vertex` cite.
pub mod Points
