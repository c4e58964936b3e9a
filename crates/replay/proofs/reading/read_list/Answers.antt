-- `replay::reading::read_list` is safe. Assumes nothing.
use native.Mathlib.Omega.{arith}
use lib.ListN.{length-take}
use borrow.Author.Rules.{rules}
use Rattle.replay.proofs.reading.read_list.Goals as goal

pub slice_bounds-floats-end-2 : goal.slice_bounds-floats-end-2
slice_bounds-floats-end-2 c = simp length-take (omega arith)
