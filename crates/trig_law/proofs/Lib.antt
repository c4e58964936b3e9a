-- The theorem `near_series`, from what one rounding does up to the two series.
pub mod Rounded
pub mod Steps
pub mod Horner
pub mod Parts
pub mod Fractions
pub mod Sums
pub mod Reduced
pub mod Near
pub mod ExamplesLaws
