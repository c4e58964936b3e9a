-- Laws that the proofs of `surface_box` use.
pub mod Choices
