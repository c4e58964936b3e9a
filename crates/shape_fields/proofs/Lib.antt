-- Proofs that several functions of `shape_fields` share.
mod Others
