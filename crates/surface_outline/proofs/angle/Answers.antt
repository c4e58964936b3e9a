-- `surface_outline::angle` meets its contract. Assumes nothing.
use Rattle.surface_outline.proofs.Cases.{angle_full, angle_part}
use native.Mathlib.Nat.{mod-lt}
use Rattle.ieee.specs.Ends.{of_nat_in}
use native.Mathlib.Omega.{arith}
use borrow.Author.Rules.{rules}
use Rattle.surface_outline.proofs.angle.Goals as goal

pub int_to_float-result : goal.int_to_float-result
int_to_float-result c = of_nat_in _ (omega (arith, mod-lt c.args.k c.requires.n_positive))

pub int_to_float-result-then-full : goal.int_to_float-result-then-full
int_to_float-result-then-full c = of_nat_in _ (omega arith)

pub int_to_float-result-else-full : goal.int_to_float-result-else-full
int_to_float-result-else-full c = of_nat_in _ (omega arith)

pub int_to_float-result-else-full-2 : goal.int_to_float-result-else-full-2
int_to_float-result-else-full-2 c = of_nat_in _ (omega arith)

pub returns-then-full : goal.returns-then-full
returns-then-full c = angle_full _ _ _ _ _ c.if-full.true

pub returns-else-full : goal.returns-else-full
returns-else-full c = angle_part _ _ _ _ _ c.if-full.false
