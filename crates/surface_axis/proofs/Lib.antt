-- The cases of the definitions, as the code's branches meet them.
pub mod Cases
