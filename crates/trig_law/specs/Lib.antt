-- The series of sine and cosine, what it is to lie near them, and worked examples.
pub mod Series
pub mod Examples
