-- Theorems on the definitions of outline_caps_law.
pub mod CapsLaws
pub mod CapsMore
pub mod EdgesLaws
pub mod GuardLaws
pub mod KeptLaws
