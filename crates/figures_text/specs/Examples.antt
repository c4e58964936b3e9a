-- Texts of a few floats, by computation: a half, the float after it, and 2^-1. Assumes nothing.
use Rattle.std.specs.Prelude.{◌≡◌, refl}
use Rattle.std.specs.Float.Ieee.{of_bits, add, sub, of_int, lt, eq}
use Rattle.ieee_whole.specs.Whole.{whole_of}
use Rattle.ieee_whole.specs.Whole.{ceiling}
use Rattle.slice_text.specs.Ascii.{ascii}
use Rattle.slice_text.specs.Numbers.{decimal_within, hex_of}
use Rattle.figures_text.specs.Floats.{is_whole, is_small_power, by_bits_of, magnitude_of, float_bits_of}

half : float_bits_of 0x3FF8000000000000 ≡ ascii "1.5"
unfolding float_bits_of magnitude_of is_whole whole_of ceiling decimal_within lt eq add sub of_int of_bits
half = refl

after_half : float_bits_of 0x3FF8000000000001 ≡ ascii "3ff8000000000001"
unfolding float_bits_of magnitude_of is_whole whole_of by_bits_of is_small_power hex_of lt eq add of_int of_bits
after_half = refl

one_half : float_bits_of 0x3FE0000000000000 ≡ ascii "0.5"
unfolding float_bits_of magnitude_of is_whole whole_of ceiling decimal_within lt eq add sub of_int of_bits
one_half = refl
