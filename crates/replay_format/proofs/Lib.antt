-- What several proofs of `replay_format` cite, and those of `replay_head`.
mod Operations
mod Heads
