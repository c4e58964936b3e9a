-- What the proofs of `fixture_draw` cite.
mod Solids
mod Walks
