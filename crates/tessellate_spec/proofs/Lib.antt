-- Theorems on the definitions of tessellate_spec.
pub mod OutcomeLawsHeld
