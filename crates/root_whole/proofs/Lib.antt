-- Laws of the square root over whole numbers, and a bound on products.
pub mod Bounds
pub mod Roots
pub mod Neighbours
pub mod Turns
