-- The laws of tables, and of surfaces whose case is known.
pub mod Tables
pub mod Surfaces
