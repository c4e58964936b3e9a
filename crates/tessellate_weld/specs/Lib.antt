-- What the contracts of `tessellate_weld` cite.
pub mod Steps
