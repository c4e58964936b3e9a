-- `replay::tessellated::tessellate` is safe: each part is within its slice. Assumes nothing.
use native.Mathlib.Omega.{arith}
use lib.ListN.{length-take}
use borrow.Author.Rules.{rules}
use Rattle.replay.proofs.tessellated.tessellate.Goals as goal

pub slice_bounds-drawn-end-2 : goal.slice_bounds-drawn-end-2
slice_bounds-drawn-end-2 c = simp length-take (omega arith)

pub slice_bounds-drawn-end-4 : goal.slice_bounds-drawn-end-4
slice_bounds-drawn-end-4 c = simp length-take (omega arith)

pub slice_bounds-drawn-end-6 : goal.slice_bounds-drawn-end-6
slice_bounds-drawn-end-6 c = simp length-take (omega arith)

pub slice_bounds-drawn-end-7 : goal.slice_bounds-drawn-end-7
slice_bounds-drawn-end-7 c = simp length-take (omega arith)
