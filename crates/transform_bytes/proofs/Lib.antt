-- Laws that the proofs of `transform_bytes` cite.
mod Operations
