-- Laws that the proofs of `replay_head` use.
mod Reading
