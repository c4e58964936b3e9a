-- What the proofs of `slice_byte_turn` cite.
mod Backwards
mod Turned
