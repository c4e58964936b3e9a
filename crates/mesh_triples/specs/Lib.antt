-- What the contracts of `mesh_triples` cite.
pub mod Triples
