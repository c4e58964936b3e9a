-- `ieee::bits::bits_of` meets its contract: only a NaN differs from itself. Assumes nothing.
use Rattle.ieee.specs.Nan.{nan_bits_lem, no_nan}
use Rattle.ieee.proofs.bits.bits_of.Goals as goal

pub float_to_bits-result : goal.float_to_bits-result
float_to_bits-result c = no_nan c.args.x c.if-x.false

pub returns-then-x : goal.returns-then-x
returns-then-x c = nan_bits_lem c.args.x c.if-x.true
