-- `outline_winding::reverse` meets its contract. Assumes nothing.
use Rattle.std.proofs.Common.{◌-◌}
use Rattle.outline.proofs.Copies.{Turning}
use Rattle.outline_winding.proofs.reverse.Given as goal

abbrev pub invariant-loop-i : goal.invariant-loop-i
invariant-loop-i l = Turning l.n l.i (l.n - l.i) l.initial.out l.out
