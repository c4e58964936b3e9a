-- Laws of 32-bit numbers and floats in lists of bytes: one number, and lists of them.
pub mod Words
pub mod Lists
pub mod Floats
