-- Sine and cosine as definitions, with laws and worked examples.
pub mod Formula
pub mod Trig
pub mod TrigLaws
pub mod Examples
