-- What the contract of `solid` asks of a shape and its list.
pub mod Limits
pub mod Soups
