-- What the contracts of `solid_outline` cite.
pub mod Turned
