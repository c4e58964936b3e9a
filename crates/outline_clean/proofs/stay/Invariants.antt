-- `outline_clean::stay` meets its contract. Assumes nothing.
use Rattle.std.proofs.Common.{◌≡◌, ◌≤◌}
use Rattle.outline.specs.Clean.{stay}
use Rattle.outline_clean.proofs.stay.Given as goal

abbrev pub invariant-loop-k : goal.invariant-loop-k
invariant-loop-k l = (l.k ≤ l.m) × (stay l.out l.k ≡ stay l.out l.m)

abbrev pub decreases-loop-k : goal.decreases-loop-k
decreases-loop-k l = l.k
