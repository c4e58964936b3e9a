-- `trig::reduce` meets its contract: the code's literals are the constants of the definition. Assumes nothing.
use mathlib.Core.Path.{refl}
use Rattle.trig_spec.specs.Formula.{reduced}
use Rattle.trig.proofs.reduce.Goals as goal

pub returns : goal.returns
unfolding reduced
returns c = refl
