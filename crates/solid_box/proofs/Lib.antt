-- Laws that the proofs of `solid_box` use.
pub mod FaceRuns
pub mod BoxRuns
pub mod FlatRuns
