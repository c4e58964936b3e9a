pub mod Laws
pub mod Copies
