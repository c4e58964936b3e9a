-- `figures_same::floats` meets its contract: what is left to compare decides. Assumes nothing.
use lib.Ieee.{eq}
use Prim.Native.Nat.{◌≤◌}
use lib.ListN.{length}
use Rattle.figures_same.proofs.Fronts.{Left}
use Rattle.figures_same.proofs.floats.Given as goal

abbrev pub invariant-loop-i : goal.invariant-loop-i
invariant-loop-i l = (length l.front ≤ length l.v) × Left eq l.v l.front l.i
