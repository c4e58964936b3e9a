-- `replay::steps::transform` is safe: each part is within its slice. Assumes nothing.
use native.Mathlib.Omega.{arith}
use lib.ListN.{length-take}
use borrow.Author.Rules.{rules}
use Rattle.replay.proofs.steps.transform.Goals as goal

pub slice_bounds-transform-end-2 : goal.slice_bounds-transform-end-2
slice_bounds-transform-end-2 c = simp length-take (omega arith)

pub slice_bounds-transform-end-4 : goal.slice_bounds-transform-end-4
slice_bounds-transform-end-4 c = simp length-take (omega arith)
