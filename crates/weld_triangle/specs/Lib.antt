-- What the contracts of the crate `weld_triangle` cite.
pub mod Steps
