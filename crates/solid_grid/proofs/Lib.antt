-- Laws that the proofs of `solid_grid` use.
pub mod Cells
