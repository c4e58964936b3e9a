-- Theorems on the definitions of transform.
pub mod OpsLawsHeld
