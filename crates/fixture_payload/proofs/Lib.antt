-- Laws that the proofs of `fixture_payload` cite, and those of the crates that read payloads.
pub mod Lengths
pub mod Part
