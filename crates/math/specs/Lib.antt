-- The definitions that the contracts of `math`, `math_norm` and `math_box` cite, and laws of them.
pub mod Vec
pub mod Box
pub mod Laws
