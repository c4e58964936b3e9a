-- `outline_remaining::all_kinds` meets its contract. Assumes nothing.
use Rattle.outline_ears.specs.Inside.{idx_of}
use Rattle.outline_remaining.specs.Removed.{SameCorners}
use Rattle.outline_remaining.proofs.Kept.{Filling}
use Rattle.outline_remaining.proofs.all_kinds.Given as goal

abbrev pub invariant-loop-k : goal.invariant-loop-k
invariant-loop-k l = SameCorners l.initial.left l.left × Filling l.v l.eps (idx_of l.initial.left) l.k l.left.kinds
