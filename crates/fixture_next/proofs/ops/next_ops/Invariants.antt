-- `fixture_next::ops::next_ops` meets its contract. Assumes nothing.
use Prim.Native.Nat.{◌-◌}
use lib.ListN.{length}
use Rattle.fixture_next.proofs.Sixteen.{Gathered}
use Rattle.fixture_next.proofs.ops.next_ops.Given as goal

abbrev pub invariant-loop-place : goal.invariant-loop-place
invariant-loop-place l = Gathered l.file l.at l.place l.ops l.count

abbrev pub decreases-loop-place : goal.decreases-loop-place
decreases-loop-place l = length l.file - l.place
