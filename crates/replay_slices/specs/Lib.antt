-- What the contracts of `replay_slices` cite.
pub mod Filling
pub mod Swapped
