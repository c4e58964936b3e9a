-- `outline_ears::first_flat` meets its contract. Assumes nothing.
use Rattle.std.proofs.Common.{◌≡◌, ◌-◌}
use Rattle.outline_ears.specs.Ears.{counting, find}
use Rattle.outline_ears.specs.Kinds.{is_flat_of, first_flat_of}
use Rattle.outline_ears.proofs.first_flat.Given as goal

abbrev pub invariant-loop-j : goal.invariant-loop-j
invariant-loop-j l = find (is_flat_of l.left.kinds) (counting l.j (l.left.m - l.j)) ≡ first_flat_of l.left.kinds l.left.m
