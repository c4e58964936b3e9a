-- Worked examples of the definitions, by computation. Floats are given by their bits.
use Rattle.std.specs.Prelude.{◌≡◌, false, pos, negsuc, refl}
use Rattle.std.specs.Float.{inf, binary64}
use Rattle.std.specs.Float.Ieee.{of_bits}
use Rattle.ieee_whole.specs.Whole.{ceiling, nearest_whole, mod4}

-- the ceiling of 2.5 is 3, of 2.0 it is 2, of -0.5 it is 0, of an infinity the largest usize
ceiling_of_fraction : ceiling (of_bits binary64 0x4004000000000000) ≡ 3
unfolding ceiling of_bits
ceiling_of_fraction = refl

ceiling_of_whole : ceiling (of_bits binary64 0x4000000000000000) ≡ 2
unfolding ceiling of_bits
ceiling_of_whole = refl

ceiling_below_zero : ceiling (of_bits binary64 0xBFE0000000000000) ≡ 0
unfolding ceiling of_bits
ceiling_below_zero = refl

ceiling_of_infinity : ceiling (inf false) ≡ 18446744073709551615
unfolding ceiling
ceiling_of_infinity = refl

-- halves go away from zero: 2.5 to 3, and -0.5 to -1, whose remainder modulo 4 is 3
half_up_from_zero : nearest_whole (of_bits binary64 0x4004000000000000) ≡ pos 3
unfolding nearest_whole of_bits
half_up_from_zero = refl

half_down_from_zero : nearest_whole (of_bits binary64 0xBFE0000000000000) ≡ negsuc 0
unfolding nearest_whole of_bits
half_down_from_zero = refl

minus_one_modulo_four : mod4 (negsuc 0) ≡ 3
unfolding mod4
minus_one_modulo_four = refl
