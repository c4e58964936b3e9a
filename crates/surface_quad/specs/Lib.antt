-- What the contracts of `surface_quad` cite.
pub mod Flat
pub mod Guesses
