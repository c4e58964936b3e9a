-- `weld_bucket::spread` meets its contract: no product and no sum wraps. Assumes nothing.
use Prim.Native.Nat.{ℕ, ◌+◌, ◌*◌, ◌/◌, ◌%◌, ◌≤◌, ◌<◌, ◌^◌}
use native.Mathlib.Nat.{mul-le-mul_right}
use native.Mathlib.Omega.{arith}
use mir.Val.{Fits}
use mir.Syntax.{w64}
use mathlib.Core.Path.{refl}
use Rattle.weld_bucket.specs.Bucket.{spread_of}
use Rattle.weld_bucket.proofs.spread.Goals as goal

module _ (bits low high : ℕ) (b : bits < 2 ^ 64) where
  lows : bits % 4294967296 * low ≤ 4294967295 * low
  lows = mul-le-mul_right low (omega arith)

  highs : bits / 4294967296 * high ≤ 4294967295 * high
  highs = mul-le-mul_right high (omega arith)

-- products of halves by small multipliers, and their sum
fits_low : (x low high : ℕ) → x ≤ 4294967295 * low → low + high < 2 ^ 32 → Fits w64 x
fits_low x low high h k = omega arith

fits_high : (x low high : ℕ) → x ≤ 4294967295 * high → low + high < 2 ^ 32 → Fits w64 x
fits_high x low high h k = omega arith

fits_sum : (x y low high : ℕ) → x ≤ 4294967295 * low → y ≤ 4294967295 * high → low + high < 2 ^ 32 → Fits w64 (x + y)
fits_sum x y low high h k l = omega arith

small : (x y low high : ℕ) → x ≤ 4294967295 * low → y ≤ 4294967295 * high → x + y ≤ (low + high) * 4294967295
small x y low high h k = omega arith

pub overflow_mul-result : goal.overflow_mul-result
overflow_mul-result c = fits_low _ c.args.low c.args.high (lows c.args.bits c.args.low c.args.high c.ranges.bits.fits) c.requires

pub overflow_mul-result-2 : goal.overflow_mul-result-2
overflow_mul-result-2 c = fits_high _ c.args.low c.args.high (highs c.args.bits c.args.low c.args.high c.ranges.bits.fits) c.requires

pub overflow_add-result : goal.overflow_add-result
overflow_add-result c =
    fits_sum _ _ c.args.low c.args.high (lows c.args.bits c.args.low c.args.high c.ranges.bits.fits)
    (highs c.args.bits c.args.low c.args.high c.ranges.bits.fits) c.requires

pub returns : goal.returns
unfolding spread_of
returns c = (
  refl,
  small _ _ c.args.low c.args.high (lows c.args.bits c.args.low c.args.high c.ranges.bits.fits)
      (highs c.args.bits c.args.low c.args.high c.ranges.bits.fits),
)
