-- The Rust's TriMesh as definitions, and the theorems about it.
pub mod Decides
pub mod Mesh
pub mod Closed
pub mod Slices
pub mod Edits
pub mod Measures
pub mod SliceLaws
pub mod WeldLaws
pub mod SelfSame
pub mod EdgeLaws
pub mod ProperLaws
pub mod Welded
pub mod ClosedLaws
pub mod ClosedExamples
pub mod Parts
