-- What the contracts of `surface_box` cite.
pub mod Faces
