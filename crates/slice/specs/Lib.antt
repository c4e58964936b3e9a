-- What the contracts of `slice` cite, and laws of it for loops over slices.
pub mod Cleared
pub mod Every
pub mod ClearedLaws
pub mod EveryLaws
