-- Theorems on the definitions of mesh_spec.
pub mod ClosedLawsHeld
pub mod EdgeLawsHeld
pub mod PartsLaws
pub mod ProperLawsHeld
pub mod WeldLawsHeld
pub mod WeldedLaws
