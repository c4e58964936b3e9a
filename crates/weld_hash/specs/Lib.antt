-- What the contracts of `weld_hash` cite.
pub mod Hash
