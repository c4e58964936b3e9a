-- Laws that several proofs of this crate use, and some of `tessellate_place`.
pub mod Readings
