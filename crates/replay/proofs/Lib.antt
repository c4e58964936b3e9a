-- Laws that the proofs of `replay` use.
mod Leaves
