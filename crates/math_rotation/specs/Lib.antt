-- The definitions that the contracts of `math_rotation` cite.
pub mod Rotation
