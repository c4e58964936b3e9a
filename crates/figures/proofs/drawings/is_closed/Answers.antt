-- `figures::drawings::is_closed` is safe: the part is within its slice. Assumes nothing.
use native.Mathlib.Omega.{arith}
use lib.ListN.{length-take}
use borrow.Author.Rules.{rules}
use Rattle.figures.proofs.drawings.is_closed.Goals as goal

pub slice_bounds-closed-end : goal.slice_bounds-closed-end
slice_bounds-closed-end c = simp length-take (omega arith)
