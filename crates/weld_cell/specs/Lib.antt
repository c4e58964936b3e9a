-- What the contracts of the crate `weld_cell` cite.
pub mod Cell
