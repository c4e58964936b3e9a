-- What the proofs of `slice_byte_lists` cite.
mod Loops
