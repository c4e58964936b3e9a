pub mod Without
pub mod Removed
