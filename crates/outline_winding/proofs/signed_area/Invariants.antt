-- `outline_winding::signed_area` meets its contract. Assumes nothing.
use Rattle.std.proofs.Common.{◌≡◌, ◌-◌}
use Rattle.outline.specs.Area.{sides}
use Rattle.outline_winding.proofs.signed_area.Given as goal

abbrev pub invariant-loop-i : goal.invariant-loop-i
invariant-loop-i l = sides l.v l.n l.s l.i (l.n - l.i) ≡ sides l.v l.n l.initial.s 0 l.n
