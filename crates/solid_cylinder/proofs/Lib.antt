-- Laws that the proofs of `solid_cylinder` use.
pub mod CylinderRuns
