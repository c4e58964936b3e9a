-- Worked examples: the case of each value with a name, by computation from its pattern.
use Rattle.std.specs.Prelude.{◌≡◌, refl, ℕ}
use Rattle.std.specs.Float.{binary64}
use Rattle.std.specs.Float.Ieee.{of_bits, to_bits, eq, lt}
use Rattle.root_case.specs.declared.RootCase.{RootCase}
use Rattle.root_case.specs.declared.RootCase.TheVariants.{Zero, NotFinite, Negative, Subnormal, EvenExponent, OddExponent}
use Rattle.root_case.specs.Case.{root_case}

abbrev case_at : ℕ → RootCase
case_at b = root_case (of_bits binary64 b)

-- 4, of exponent 2
four : case_at 0x4010000000000000 ≡ EvenExponent
unfolding root_case of_bits to_bits eq lt
four = refl

-- 2, of exponent 1
two : case_at 0x4000000000000000 ≡ OddExponent
unfolding root_case of_bits to_bits eq lt
two = refl

-- 0.5, of exponent -1
half : case_at 0x3FE0000000000000 ≡ OddExponent
unfolding root_case of_bits to_bits eq lt
half = refl

-- 1.5, of exponent 0
one_and_a_half : case_at 0x3FF8000000000000 ≡ EvenExponent
unfolding root_case of_bits to_bits eq lt
one_and_a_half = refl

-- 3, of exponent 1
three : case_at 0x4008000000000000 ≡ OddExponent
unfolding root_case of_bits to_bits eq lt
three = refl

-- 2^-1022, the least normal number, of exponent -1022
least_normal : case_at 0x0010000000000000 ≡ EvenExponent
unfolding root_case of_bits to_bits eq lt
least_normal = refl

-- the largest float, 2^1024 - 2^971, of exponent 1023
largest : case_at 0x7FEFFFFFFFFFFFFF ≡ OddExponent
unfolding root_case of_bits to_bits eq lt
largest = refl

-- 2^-1074, the least subnormal number
least_subnormal : case_at 0x0000000000000001 ≡ Subnormal
unfolding root_case of_bits to_bits eq lt
least_subnormal = refl

-- 2^-1022 - 2^-1074, the largest subnormal number
largest_subnormal : case_at 0x000FFFFFFFFFFFFF ≡ Subnormal
unfolding root_case of_bits to_bits eq lt
largest_subnormal = refl

-- -0.0, which is zero and not negative
minus_zero : case_at 0x8000000000000000 ≡ Zero
unfolding root_case of_bits to_bits eq lt
minus_zero = refl

-- +0.0
plus_zero_lem : case_at 0x0000000000000000 ≡ Zero
unfolding root_case of_bits to_bits eq lt
plus_zero_lem = refl

-- +infinity
plus_infinity : case_at 0x7FF0000000000000 ≡ NotFinite
unfolding root_case of_bits to_bits eq lt
plus_infinity = refl

-- -infinity, which is not finite before it is negative
minus_infinity : case_at 0xFFF0000000000000 ≡ NotFinite
unfolding root_case of_bits to_bits eq lt
minus_infinity = refl

-- NaN
not_a_number : case_at 0x7FF8000000000000 ≡ NotFinite
unfolding root_case of_bits to_bits eq lt
not_a_number = refl

-- -2^-1074, which is negative before it is subnormal
minus_least : case_at 0x8000000000000001 ≡ Negative
unfolding root_case of_bits to_bits eq lt
minus_least = refl

-- -1, whose exponent 0 is not asked for
minus_one : case_at 0xBFF0000000000000 ≡ Negative
unfolding root_case of_bits to_bits eq lt
minus_one = refl
