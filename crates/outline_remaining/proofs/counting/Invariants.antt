-- `outline_remaining::counting` meets its contract. Assumes nothing.
use Rattle.std.proofs.Common.{◌≡◌, length, take}
use Rattle.outline_ears.specs.Ears.{counting}
use Rattle.outline_remaining.proofs.counting.Given as goal

abbrev pub invariant-loop-i : goal.invariant-loop-i
invariant-loop-i l = (length l.idx ≡ 512) × (take l.i l.idx ≡ counting 0 l.i)
