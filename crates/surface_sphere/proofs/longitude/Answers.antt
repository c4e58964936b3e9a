-- `surface_sphere::longitude` meets its contract. Assumes nothing.
use Rattle.solid_spec.specs.Sphere.{longitude}
use native.Mathlib.Nat.{mod-lt}
use Rattle.ieee.specs.Ends.{of_nat_in}
use native.Mathlib.Omega.{arith}
use borrow.Author.Rules.{rules}
use Rattle.surface_sphere.proofs.longitude.Goals as goal

pub int_to_float-k : goal.int_to_float-k
int_to_float-k c = of_nat_in _ (omega (arith, mod-lt c.args.j c.requires.np_positive))

pub int_to_float-np : goal.int_to_float-np
int_to_float-np c = of_nat_in _ (omega arith)

pub returns : goal.returns
unfolding longitude
returns c = c.sin_cos.ensures.value
