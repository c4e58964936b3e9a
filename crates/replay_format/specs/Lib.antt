-- The definitions that the contracts of `replay_format` cite.
pub mod Layout
