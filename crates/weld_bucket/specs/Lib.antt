-- What the contracts of `weld_bucket` cite.
pub mod Bucket
