-- `replay_format::head::bounds_of` meets its contract. Assumes nothing.
use Rattle.replay_format.proofs.head.bounds_of.Goals as goal

pub returns : goal.returns
returns c i = record { min = c.vec_at.ensures i; max = c.vec_at-2.ensures i }
