-- Laws of the root's cases: the case by the pattern's fields, what each case says of a float, and the exponent as an i64.
pub mod Pattern
pub mod Laws
pub mod Signed
