-- The cases of the root (docs/SCOPE.md, "The root by its named cases"), by the fields of IEEE 754's binary64 (its 3.4). Definitions only.
use Rattle.std.specs.Prelude.{ℕ, ◌/◌, ◌%◌, ◌^◌, Bool, not, cond, ℤ, pos, negsuc, eqb, Float}
use Rattle.std.specs.Float.{binary64}
use Rattle.std.specs.Float.Ieee.{to_bits, minus, eq, lt}
use Rattle.std.specs.Float.Ieee.Scale.{finite}
use Rattle.ieee.specs.Number.{plus_zero}
use Rattle.root_case.specs.declared.RootCase.{RootCase}
use Rattle.root_case.specs.declared.RootCase.TheVariants.{Zero, NotFinite, Negative, Subnormal, EvenExponent, OddExponent}

-- IEEE 754's E, the exponent with its bias: the 11 digits below the sign.
unfoldable pub biased_exponent : Float → ℕ
biased_exponent x = to_bits binary64 x % 2 ^ 63 / 2 ^ 52

-- IEEE 754's T, the trailing digits of the significand: the lowest 52 digits.
unfoldable pub trailing : Float → ℕ
trailing x = to_bits binary64 x % 2 ^ 52

-- IEEE 754's e of a normal number, the exponent without its bias.
unfoldable pub exponent : Float → ℤ
unfolding biased_exponent
exponent x = minus (biased_exponent x) 1023

-- Whether 2 divides a whole number. `negsuc n` is -(n + 1).
abbrev pub is_even : ℤ → Bool
is_even (pos n) = eqb (n % 2) 0
is_even (negsuc n) = eqb (n % 2) 1

-- The function `root_case`: the first of six tests that is true. A number that none of the first three holds of is above zero; it is subnormal where E is 0.
unfoldable pub root_case : Float → RootCase
unfolding biased_exponent exponent
root_case x =
    cond (eq x plus_zero) Zero
    (cond (not (finite x)) NotFinite
    (cond (lt x plus_zero) Negative
    (cond (eqb (biased_exponent x) 0) Subnormal
    (cond (is_even (exponent x)) EvenExponent OddExponent))))
