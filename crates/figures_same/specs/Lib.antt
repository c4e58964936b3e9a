-- What the contracts of `figures_same` cite, and laws of it.
pub mod Begins
pub mod BeginsLaws
pub mod Vertices
pub mod VerticesLaws
