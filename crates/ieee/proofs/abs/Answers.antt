-- `ieee::abs` meets its contract. Assumes nothing.
use lib.Ieee.{binary64, of_bits, fits}
use Rattle.ieee.specs.Same.{true_T}
use Rattle.ieee.specs.MinMax.{negated, kept}
use Rattle.ieee.proofs.abs.Goals as goal

pub returns-then-x : goal.returns-then-x
unfolding of_bits
returns-then-x c = negated c.args.x c.if-x.true

pub returns-else-x : goal.returns-else-x
unfolding of_bits
returns-else-x c = kept binary64 c.args.x (true_T (fits binary64 c.args.x) c.well_formed.0.1) c.if-x.false
