-- `fixture_next::next::next_solid` meets its contract. Assumes nothing.
use Prim.Native.Nat.{◌-◌}
use lib.ListN.{length}
use Rattle.fixture_next.proofs.Reading.{Reading}
use Rattle.fixture_next.proofs.next.next_solid.Given as goal

abbrev pub invariant-loop-at : goal.invariant-loop-at
invariant-loop-at l = Reading l.file l.from l.initial.s.options l.initial.s.default l.at l.s

abbrev pub decreases-loop-at : goal.decreases-loop-at
decreases-loop-at l = length l.file - l.at
