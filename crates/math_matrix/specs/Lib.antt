-- The definitions that the contracts of `math_matrix` and `math_matrix_ops` cite.
pub mod Mat
pub mod MatLaws
