-- `outline_clean::gather` meets its contract. Assumes nothing.
use Rattle.std.proofs.Common.{◌≡◌, ◌*◌, ◌≤◌, [], take, drop}
use Rattle.outline.specs.Clean.{gathered}
use Rattle.outline_clean.proofs.gather.Given as goal

abbrev pub invariant-loop-i : goal.invariant-loop-i
invariant-loop-i l = (l.m ≤ l.i) × (gathered (take (2 * l.m) l.out) (drop (2 * l.i) l.v) ≡ gathered [] l.v)
