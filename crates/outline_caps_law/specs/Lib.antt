pub mod Edges
pub mod Kept
pub mod Caps
pub mod Guard
pub mod Examples
