-- What the contracts of `solid_grid` cite.
pub mod Sheet
