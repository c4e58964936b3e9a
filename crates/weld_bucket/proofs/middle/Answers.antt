-- `weld_bucket::middle` meets its contract: the product of the halves fits. Assumes nothing.
use borrow.Author.Rules.{rules}
use mathlib.Core.Path.{refl}
use Prim.Native.Nat.{ℕ, ◌+◌, ◌*◌, ◌/◌, ◌%◌, ◌≤◌, ◌<◌, ◌^◌}
use native.Mathlib.Nat.{mul-le-mul_right}
use native.Mathlib.Omega.{arith}
use mir.Val.{Fits}
use mir.Syntax.{w64}
use Rattle.weld_bucket.specs.Bucket.{middle_of}
use Rattle.weld_bucket.proofs.middle.Goals as goal

product : (x y : ℕ) → x < 4294967296 → y < 4294967296 → Fits w64 (x * y)
product x y p q = let s : x * y ≤ 4294967295 * y = mul-le-mul_right y (omega arith) in omega arith

below : (x : ℕ) → x % 4294967296 < 2 ^ 32
below x = omega arith

pub overflow_mul-result : goal.overflow_mul-result
overflow_mul-result c = product _ _ (omega arith) (omega arith)

pub returns : goal.returns
unfolding middle_of
returns c = (refl, below _)
