-- Laws of `begins` and `has_vertex`, for the proofs of `figures_same`.
pub mod Fronts
mod Searches
