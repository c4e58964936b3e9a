-- `trig::sine_sum` meets its contract: the code has each coefficient as the literal that its division gives, and antt divides it out. Assumes nothing.
use mathlib.Core.Path.{refl}
use lib.Ieee.{of_bits, div, of_int}
use Rattle.trig_spec.specs.Formula.{sine_sum}
use Rattle.trig.proofs.sine_sum.Goals as goal

pub returns : goal.returns
unfolding sine_sum of_bits div of_int
returns c = refl
