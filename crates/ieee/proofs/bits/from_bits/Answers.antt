-- `ieee::bits::from_bits` meets its contract: a pattern above that of the infinity is a NaN. Assumes nothing.
use mathlib.Core.Path.{◌∙◌}
use Rattle.ieee.specs.Nan.{not_nan, nan_of, zero_over_zero}
use Rattle.ieee.proofs.bits.from_bits.Goals as goal

pub float_from_bits-result : goal.float_from_bits-result
float_from_bits-result c = not_nan c.args.b c.if-b-gt9218868437227405312.false

pub returns-then-b-gt9218868437227405312 : goal.returns-then-b-gt9218868437227405312
returns-then-b-gt9218868437227405312 c = zero_over_zero ∙ nan_of c.args.b c.if-b-gt9218868437227405312.true
