-- `replay::steps::flip` is safe: each part is within its slice. Assumes nothing.
use native.Mathlib.Omega.{arith}
use lib.ListN.{length-take}
use borrow.Author.Rules.{rules}
use Rattle.replay.proofs.steps.flip.Goals as goal

pub slice_bounds-flip-end : goal.slice_bounds-flip-end
slice_bounds-flip-end c = simp length-take (omega arith)

pub slice_bounds-flip-end-3 : goal.slice_bounds-flip-end-3
slice_bounds-flip-end-3 c = simp length-take (omega arith)
