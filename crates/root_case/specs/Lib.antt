-- The cases of the root: their definition, and those of values with a name.
pub mod Case
pub mod Examples
