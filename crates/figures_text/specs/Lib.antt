-- What the contracts of `figures_text` cite.
pub mod Counts
pub mod Floats
pub mod Examples
