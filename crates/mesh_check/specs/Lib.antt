-- What the contracts of `mesh_check` cite: a mesh in lent slices, and the checks 8, 1, 8 for the box, and 7.
pub mod State
pub mod Places
pub mod StateLaws
pub mod BoxExamples
