-- Laws of the root: what it is in each case, and the theorem `sqrt_rounded`.
pub mod Scaled
pub mod Patterns
pub mod Best
pub mod Units
pub mod Means
pub mod Nearest
pub mod Rounded
pub mod Exact
pub mod Digits
pub mod Cases
pub mod ByCase
pub mod Steps
