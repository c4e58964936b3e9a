-- What the contracts of `replay_calls` cite.
pub mod Agreed
pub mod Sessions
