pub mod Ears
pub mod Inside
pub mod Kinds
