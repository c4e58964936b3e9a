-- Laws that the proofs of this crate's functions cite.
pub mod Cut
pub mod Ceiling
pub mod Near
pub mod Far
pub mod Signed
