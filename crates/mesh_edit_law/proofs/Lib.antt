-- What the proofs of the edits use.
pub mod Given
pub mod ListExamplesLaws
pub mod ListExamplesMore
pub mod ListsLaws
pub mod ListsMore
