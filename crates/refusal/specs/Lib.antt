pub mod Answer
pub mod Number
pub mod Accepted
pub mod Laws
