pub mod Counted
pub mod Taken
pub mod Kept
