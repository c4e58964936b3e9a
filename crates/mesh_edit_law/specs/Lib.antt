-- The definitions that the contracts of `mesh` cite, and the theorem about lists of calls.
pub mod Outcome
pub mod Edits
pub mod Lists
pub mod ListExamples
