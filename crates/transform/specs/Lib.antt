-- The definitions that the contracts of `transform`, `transform_check` and `transform_angles` cite, and figures of them.
pub mod Angle
pub mod Ops
pub mod Checks
pub mod OpsLaws
pub mod Examples
