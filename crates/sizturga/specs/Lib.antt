-- What the contracts of the calls from C cite.
pub mod Answers
