-- What the contracts of `mesh_box` cite.
pub mod ZeroBox
pub mod FiniteBox
