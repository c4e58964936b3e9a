-- `replay::steps::append` is safe: each part is within its slice. Assumes nothing.
use native.Mathlib.Omega.{arith}
use lib.ListN.{length-take}
use borrow.Author.Rules.{rules}
use Rattle.replay.proofs.steps.append.Goals as goal

pub slice_bounds-append-end-2 : goal.slice_bounds-append-end-2
slice_bounds-append-end-2 c = simp length-take (omega arith)

pub slice_bounds-append-end-4 : goal.slice_bounds-append-end-4
slice_bounds-append-end-4 c = simp length-take (omega arith)

pub slice_bounds-append-end-5 : goal.slice_bounds-append-end-5
slice_bounds-append-end-5 c = simp length-take (omega arith)

pub slice_bounds-append-end-6 : goal.slice_bounds-append-end-6
slice_bounds-append-end-6 c = simp length-take (omega arith)
