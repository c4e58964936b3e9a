-- What the contracts of `transform_bytes` cite, and a bound that its callers cite.
pub mod Layout
pub mod Most
