-- What the contracts of `slice_text` cite, and the laws of it.
pub mod Ascii
pub mod Line
pub mod LineLaws
pub mod Numbers
pub mod NumberLaws
