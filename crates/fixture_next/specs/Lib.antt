-- What the contracts of `fixture_next` cite, and two laws for the start of a walk.
pub mod Ready
pub mod Next
pub mod Job
pub mod Start
