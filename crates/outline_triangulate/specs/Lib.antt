pub mod Triangulate
pub mod Slices
