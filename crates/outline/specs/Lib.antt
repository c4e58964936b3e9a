pub mod Corners
pub mod Clean
pub mod Area
pub mod Ccw
pub mod Axes
pub mod Slices
pub mod Examples
