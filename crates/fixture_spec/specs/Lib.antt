-- What the contracts of the fixture crates cite, and examples by computation.
pub mod Fields
pub mod Solids
pub mod Output
pub mod Outcome
pub mod FieldExamples
pub mod OutcomeExamples
