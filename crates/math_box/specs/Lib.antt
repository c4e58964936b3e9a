-- What the contracts of `math_box` cite, and laws of it.
pub mod NoNan
pub mod NoNanLaws
