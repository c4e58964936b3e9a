-- What the contracts of `mesh_move` cite.
pub mod Moves
