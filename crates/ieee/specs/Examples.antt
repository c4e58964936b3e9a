-- Worked examples of the definitions, by computation. Floats are given by their bits.
use Rattle.std.specs.Prelude.{◌≡◌, true, pos, from_bits}
use Rattle.std.specs.Prelude.{refl}
use Rattle.std.specs.Float.{nan, fin, binary64}
use Rattle.std.specs.Float.Ieee.{lt, is_nan}
use Rattle.ieee.specs.Number.{minimum, maximum, absolute, plus_zero}

-- min(-0.0, +0.0) is the first, and max(NaN, 1.0) is 1.0
min_of_zeros : minimum (fin true 0 (pos 0)) plus_zero ≡ fin true 0 (pos 0)
unfolding minimum is_nan lt
min_of_zeros = refl

max_of_nan : maximum nan (from_bits binary64 0x3FF0000000000000) ≡ from_bits binary64 0x3FF0000000000000
unfolding maximum is_nan
max_of_nan = refl

-- |-0.0| is +0.0
abs_of_minus_zero : absolute (fin true 0 (pos 0)) ≡ plus_zero
unfolding absolute
abs_of_minus_zero = refl
