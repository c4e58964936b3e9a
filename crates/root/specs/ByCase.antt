-- The root case by case, beside IEEE 754. Definitions only.
-- Below, T is `trailing x`, M is `significand x`, e is `exponent x` and k is `fours x`. A normal number above zero is M × 2 ^ (e - 52), a subnormal one
-- T × 2 ^ -1074. That x is so is proved: `even_digits`, `odd_digits` and `subnormal_digits` in proofs/ByCase.antt.
use Rattle.std.specs.Prelude.{ℕ, ◌+◌, ◌-◌, ◌*◌, ◌/◌, ◌^◌, ◌≡◌, false, cond, ℤ, pos, negsuc, neg_ℤ, Float}
use Rattle.std.specs.Float.{nan, inf, binary64}
use Rattle.std.specs.Float.Ieee.{up, down, size, round, eq}
use Rattle.root_case.specs.Case.{trailing, exponent, root_case}
use Rattle.root_case.specs.declared.RootCase.TheVariants.{Zero, NotFinite, Negative, Subnormal, EvenExponent, OddExponent}
use Rattle.root_whole.specs.Whole.{near_root}

-- The digits of a normal number as a whole number: a 1, and the 52 that its pattern has.
unfoldable pub significand : Float → ℕ
unfolding trailing
significand x = 2 ^ 52 + trailing x

-- The number d.dd…d × 2 ^ e whose 53 digits are those of q: q × 2 ^ (e - 52). The format holds it in each use below: `round` changes nothing
-- (`digits_exact` in proofs/Digits.antt).
unfoldable pub of_digits : ℕ → ℤ → Float
unfolding round
of_digits q e = round binary64 false (q * up e) (2 ^ 52 * down e)

-- Half of a whole number, rounded down. `negsuc n` is -(n + 1).
abbrev pub half : ℤ → ℤ
half (pos n) = pos (n / 2)
half (negsuc n) = negsuc (n / 2)

-- Not finite: plus infinity itself, and else NaN.
unfoldable pub not_finite_root : Float → Float
unfolding eq
not_finite_root x = cond (eq x (inf false)) x nan

-- By how many factors of 4 the digits T of a subnormal number become 53 or 54.
unfoldable pub fours : Float → ℕ
unfolding trailing size
fours x = (54 - size (trailing x)) / 2

-- Subnormal: x is T × 4 ^ k × 2 ^ 52 × 4 ^ (-563 - k), so its root is that of T × 4 ^ k × 2 ^ 52, rounded to 53 digits, at exponent -511 - k.
unfoldable pub subnormal_root : Float → Float
unfolding trailing fours near_root of_digits
subnormal_root x = of_digits (near_root (trailing x * 4 ^ fours x * 2 ^ 52)) (neg_ℤ (pos (511 + fours x)))

-- An even exponent e: x is M × 2 ^ 52 × 4 ^ (e / 2 - 52), so its root is that of M × 2 ^ 52, rounded to 53 digits, at exponent e / 2.
unfoldable pub even_root : Float → Float
unfolding significand exponent near_root of_digits
even_root x = of_digits (near_root (significand x * 2 ^ 52)) (half (exponent x))

-- An odd exponent e: x is 2 × M × 2 ^ 52 × 4 ^ ((e - 1) / 2 - 52), so its root is that of 2 × M × 2 ^ 52, rounded to 53 digits, at exponent (e - 1) / 2.
unfoldable pub odd_root : Float → Float
unfolding significand exponent near_root of_digits
odd_root x = of_digits (near_root (2 * significand x * 2 ^ 52)) (half (exponent x))

-- r is the root of x, by the case of x. What is negative is finite here: minus infinity is not finite.
pub record ByCase (x r : Float) : Type 0 where
  pub zero : root_case x ≡ Zero → r ≡ x
  pub not_finite : root_case x ≡ NotFinite → r ≡ not_finite_root x
  pub negative : root_case x ≡ Negative → r ≡ nan
  pub subnormal : root_case x ≡ Subnormal → r ≡ subnormal_root x
  pub even_exponent : root_case x ≡ EvenExponent → r ≡ even_root x
  pub odd_exponent : root_case x ≡ OddExponent → r ≡ odd_root x
