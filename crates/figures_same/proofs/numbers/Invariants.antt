-- `figures_same::numbers` meets its contract: what is left to compare decides. Assumes nothing.
use Prim.Native.Nat.{◌≤◌}
use lib.Dec.{eqb}
use lib.ListN.{length}
use Rattle.figures_same.proofs.Fronts.{Left}
use Rattle.figures_same.proofs.numbers.Given as goal

abbrev pub invariant-loop-k : goal.invariant-loop-k
invariant-loop-k l = (length l.front ≤ length l.t) × Left eqb l.t l.front l.k
