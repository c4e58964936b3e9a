-- What the contracts of `surface_outline` cite beside the definitions of `solid_spec`.
pub mod Pieces
