-- What the contracts of `slice_bytes` cite.
pub mod Bytes
