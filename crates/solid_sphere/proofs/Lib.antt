-- Laws that the proofs of `solid_sphere` use.
pub mod SphereRuns
