-- `trig::is_quarter_point` meets its contract: the code's literals are the constants of the definition. Assumes nothing.
use mathlib.Core.Path.{refl}
use Rattle.trig.specs.Quarter.{is_quarter_point}
use Rattle.trig.proofs.is_quarter_point.Goals as goal

pub returns : goal.returns
unfolding is_quarter_point
returns c = refl
