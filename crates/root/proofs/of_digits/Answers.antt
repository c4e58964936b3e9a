-- `root::of_digits` meets its contract. Assumes nothing.
use Prim.Native.Nat.{◌+◌, ◌*◌, ◌^◌}
use native.Mathlib.Omega.{arith}
use Rattle.root.proofs.Patterns.{write, not_nan_of_le}
use Rattle.root.proofs.of_digits.Goals as goal

pub float_from_bits-result : goal.float_from_bits-result
float_from_bits-result c = not_nan_of_le (c.args.k * 2 ^ 52 + c.args.q) (omega arith)

pub returns : goal.returns
returns c = write c.args.q c.args.k (omega arith) (omega arith) (omega arith)
