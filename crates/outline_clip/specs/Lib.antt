-- What the contract of `outline_clip` cites.
pub mod Clip
