-- Laws of Bool, of lists, of a match on a number, and of what a loop over a list reads next.
pub mod Arms
pub mod Bools
pub mod Lists
pub mod Next
