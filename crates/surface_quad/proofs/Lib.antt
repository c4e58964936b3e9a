-- Laws that the proofs of `surface_quad` use.
pub mod OneQuad
