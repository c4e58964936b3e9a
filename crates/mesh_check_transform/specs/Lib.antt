pub mod Transform
pub mod Examples
