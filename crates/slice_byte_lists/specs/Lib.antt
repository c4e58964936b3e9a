-- What the contracts of `slice_byte_lists` cite.
pub mod Lists
