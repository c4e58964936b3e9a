-- What the contracts of `surface_coords` cite beside the definitions of `solid_spec`.
pub mod Pieces
