-- `outline_winding::copy_swapped` meets its contract. Assumes nothing.
use Rattle.outline.proofs.Copies.{Swapping}
use Rattle.outline_winding.proofs.copy_swapped.Given as goal

abbrev pub invariant-loop-i : goal.invariant-loop-i
invariant-loop-i l = Swapping l.v l.i l.initial.out l.out
