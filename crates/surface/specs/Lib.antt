-- What the contracts of `surface` cite.
pub mod Within
pub mod Turns
pub mod Pieces
