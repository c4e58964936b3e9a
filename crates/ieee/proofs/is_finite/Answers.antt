-- `ieee::is_finite` meets its contract: x - x is a number exactly where x is one, and only a NaN differs from itself. Assumes nothing.
use lib.Ieee.{binary64}
use Rattle.ieee.specs.MinMax.{self_minus}
use Rattle.ieee.proofs.is_finite.Goals as goal

pub returns : goal.returns
returns c = self_minus binary64 c.args.x
