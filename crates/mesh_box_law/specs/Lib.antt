-- Laws of the box of vertices.
pub mod Furthest
pub mod Boxes
