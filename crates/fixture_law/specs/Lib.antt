-- What the planner's call promises, and the theorems that lead there.
pub mod Words
pub mod Jobs
pub mod JobFloats
pub mod Meshes
pub mod Counts
pub mod MeshFloats
pub mod ReadBack
pub mod Promise
