-- What the contracts of `weld` cite: what the slices hold, the states of the welder, and the laws of a soup that was welded, and of parts.
pub mod Rep
pub mod States
pub mod Parts
pub mod Runs
pub mod PartsLaws
pub mod Welding
