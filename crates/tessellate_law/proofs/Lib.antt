-- Theorems on the definitions of tessellate_law.
pub mod Demand3Laws
pub mod PromiseLaws
