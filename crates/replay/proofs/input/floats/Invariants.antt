-- `replay::input::floats` is safe: a block has no more than buf holds. Assumes nothing.
use mathlib.Core.Path.{◌≡◌}
use Rattle.std.specs.Slice.Iter.{chunks_mut_size}
use Rattle.replay.proofs.input.floats.Given as goal

abbrev pub invariant-loop-block : goal.invariant-loop-block
invariant-loop-block l = chunks_mut_size l.block-iterator ≡ 2048
