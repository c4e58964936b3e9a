-- `replay::steps::clip` is safe: each part is within its slice. Assumes nothing.
use native.Mathlib.Omega.{arith}
use lib.ListN.{length-take}
use borrow.Author.Rules.{rules}
use Rattle.replay.proofs.steps.clip.Goals as goal

pub slice_bounds-clip-end : goal.slice_bounds-clip-end
slice_bounds-clip-end c = simp length-take (omega arith)

pub slice_bounds-clip-end-3 : goal.slice_bounds-clip-end-3
slice_bounds-clip-end-3 c = simp length-take (omega arith)
