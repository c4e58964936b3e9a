-- What the contracts of `mesh_closed` cite.
pub mod Even
