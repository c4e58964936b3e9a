-- Laws that the proofs of `mesh_made` and of the calls that end there use.
pub mod Ending
pub mod Judging
pub mod MadeLawsHeld
