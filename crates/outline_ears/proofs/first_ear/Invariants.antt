-- `outline_ears::first_ear` meets its contract. Assumes nothing.
use Rattle.std.proofs.Common.{◌≡◌, ◌-◌}
use Rattle.outline_ears.specs.Ears.{is_ear, first_ear, counting, find}
use Rattle.outline_ears.specs.Inside.{idx_of}
use Rattle.outline_ears.proofs.first_ear.Given as goal

abbrev pub invariant-loop-k : goal.invariant-loop-k
invariant-loop-k l = find (is_ear l.v l.eps (idx_of l.left)) (counting l.k (l.left.m - l.k)) ≡ first_ear l.v l.eps (idx_of l.left)
