-- Definitions first, then the laws about them.
pub mod Whole
pub mod WholeLaws
pub mod Sweep
pub mod Ceil
pub mod Examples
