-- What the contracts of `c_solids` cite beside the definitions of the calls.
pub mod Boxes
pub mod Answers
