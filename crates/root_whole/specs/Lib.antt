-- The square root over whole numbers: its definition, and worked examples.
pub mod Whole
pub mod Examples
