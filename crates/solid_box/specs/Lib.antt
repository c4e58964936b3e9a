-- What the contracts of `solid_box` cite.
pub mod Box
