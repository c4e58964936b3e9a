-- What the contracts of `replay_head` cite.
pub mod Asked
pub mod Cases
pub mod Kept
pub mod Shapes
