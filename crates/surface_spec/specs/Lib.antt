-- What the contracts of the surfaces cite.
pub mod Faces
pub mod Surface
