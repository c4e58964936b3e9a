pub mod Append
pub mod Examples
