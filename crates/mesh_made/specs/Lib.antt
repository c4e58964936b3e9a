-- What the contracts of `mesh_made` and of the calls that end there cite.
pub mod Made
pub mod MadeLaws
pub mod Steps
pub mod Examples
