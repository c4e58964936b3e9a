-- `surface_sphere::latitude` meets its contract. Assumes nothing.
use Rattle.surface_sphere.proofs.Cases.{latitude_north, latitude_south, latitude_between}
use lib.Ieee.{of_bits}
use Rattle.ieee.specs.Ends.{of_nat_in}
use native.Mathlib.Omega.{arith}
use borrow.Author.Rules.{rules}
use Rattle.surface_sphere.proofs.latitude.Goals as goal

pub int_to_float-i : goal.int_to_float-i
int_to_float-i c = of_nat_in _ (omega arith)

pub int_to_float-nt : goal.int_to_float-nt
int_to_float-nt c = of_nat_in _ (omega arith)

pub returns-then-i-eq0 : goal.returns-then-i-eq0
unfolding of_bits
returns-then-i-eq0 c = latitude_north _ _ c.if-i-eq0.true

pub returns-then-i-nt : goal.returns-then-i-nt
unfolding of_bits
returns-then-i-nt c = latitude_south _ _ c.if-i-eq0.false c.if-i-nt.true

pub returns-else-i-nt : goal.returns-else-i-nt
returns-else-i-nt c = latitude_between _ _ _ c.if-i-eq0.false c.if-i-nt.false c.sin_cos.ensures.value
