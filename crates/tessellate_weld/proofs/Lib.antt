-- Laws that the proofs of `tessellate_weld` use.
pub mod Welding
pub mod Drawing
