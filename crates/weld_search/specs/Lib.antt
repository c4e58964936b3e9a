-- What the contracts of the crate `weld_search` cite.
pub mod Search
