-- The definitions that the contracts of `mesh_measures` cite.
pub mod Measures
