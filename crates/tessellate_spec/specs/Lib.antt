-- What the contract of `tessellate` cites.
pub mod Outcome
pub mod Examples
pub mod OutcomeLaws
