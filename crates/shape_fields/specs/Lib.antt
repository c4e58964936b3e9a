-- What the contracts of `shape_fields` cite.
pub mod Fields
