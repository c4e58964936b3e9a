-- What the contracts of `solid_caps` cite.
pub mod Caps
pub mod Ends
