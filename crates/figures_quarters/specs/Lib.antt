-- The text on the points of the unit circle on the axes, and worked examples.
pub mod Quarters
pub mod Examples
