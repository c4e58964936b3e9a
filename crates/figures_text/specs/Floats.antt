-- The text of a float. Definitions only.
use Rattle.std.specs.Prelude.{Bool, cond, ◌&&◌, List, ◌++◌, ℕ, ◌-◌, ◌/◌, ◌%◌, eqb, ltb, leb, Float}
use Rattle.std.specs.Float.{binary64}
use Rattle.std.specs.Float.Ieee.{of_bits, add, sub, lt, eq}
use Rattle.ieee_whole.specs.Whole.{whole_of}
use Rattle.ieee_whole.specs.Whole.{ceiling}
use Rattle.slice_text.specs.Ascii.{ascii}
use Rattle.slice_text.specs.Numbers.{decimal_of, hex_of}

-- below 10^15, and equal to the nearest whole number. That of -inf is -inf.
unfoldable pub is_whole : Float → Bool
is_whole y = lt y (of_bits binary64 0x430C6BF526340000) && eq (whole_of y).value y

-- bits of a float 2^-k, for k from 1 to 1,022: no fraction, and an exponent field from 1 to 1,022
unfoldable pub is_small_power : ℕ → Bool
is_small_power b = (eqb (b % 4503599627370496) 0 && ltb 0 (b / 4503599627370496)) && ltb (b / 4503599627370496) 1023

-- bits without a sign: 2^-k as such; inf; NaN, of which the bits are above those of inf; any other float as the 16 hexadecimal digits of its bits
unfoldable pub by_bits_of : ℕ → List ℕ
by_bits_of b =
    cond (is_small_power b) (ascii "2^-" ++ decimal_of (1023 - b / 4503599627370496))
    (cond (eqb b 0x7FF0000000000000) (ascii "inf")
    (cond (ltb 0x7FF0000000000000 b) (ascii "NaN")
    (hex_of b)))

-- one half
abbrev pub half : Float
half = of_bits binary64 0x3FE0000000000000

-- a float y that is not below zero: a whole number below 10^15 in decimal; a whole number and a half, of which y + y is whole and below 10^15, by the whole
-- number y - 0.5 with .5; any other by its bits. y + y is exact, and so is y - 0.5 of a half. 2^-1 prints 0.5, and the powers below 2^-1022 print by their
-- bits.
unfoldable pub magnitude_of : ℕ → List ℕ
magnitude_of b =
    cond (is_whole (of_bits binary64 b)) (decimal_of (ceiling (of_bits binary64 b)))
    (cond (is_whole (add binary64 (of_bits binary64 b) (of_bits binary64 b))) (decimal_of (ceiling (sub binary64 (of_bits binary64 b) half)) ++ ascii ".5")
    (by_bits_of b))

-- a float by its bits: a minus sign where the sign bit is set, and the magnitude
unfoldable pub float_bits_of : ℕ → List ℕ
float_bits_of b = cond (leb 9223372036854775808 b) (ascii "-" ++ magnitude_of (b % 9223372036854775808)) (magnitude_of (b % 9223372036854775808))
