-- Laws of triples, for the loops over the vertices or triangles of a slice.
pub mod NextTriples
pub mod Each
pub mod PointLoops
