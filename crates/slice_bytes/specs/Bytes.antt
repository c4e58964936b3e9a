-- Little-endian numbers of 4 and 8 bytes and floats in a list of bytes, read and written, and their bytes by themselves. Definitions only.
use Rattle.std.specs.Prelude.{List, [], ◌∷◌, ◌++◌, ℕ, ◌+◌, ◌*◌, ◌/◌, ◌%◌, get_or, set, Float}
use Rattle.std.specs.Float.{binary64}
use Rattle.std.specs.Float.Ieee.{of_bits}

-- the 32-bit number that begins at a place
unfoldable pub word_at : List ℕ → ℕ → ℕ
word_at b at = get_or b at 0 + 256 * get_or b (at + 1) 0 + 65536 * get_or b (at + 2) 0 + 16777216 * get_or b (at + 3) 0

-- the 64-bit number that begins at a place
unfoldable pub long_at : List ℕ → ℕ → ℕ
long_at b at = word_at b at + 4294967296 * word_at b (at + 4)

-- the float at a place; every NaN pattern is the NaN
abbrev pub float_at : List ℕ → ℕ → Float
float_at b at = of_bits binary64 (long_at b at)

-- the list with the low 32 bits of w from a place on
unfoldable pub with_word : List ℕ → ℕ → ℕ → List ℕ
with_word b at w = set (set (set (set b at (w % 256)) (at + 1) (w / 256 % 256)) (at + 2) (w / 65536 % 256)) (at + 3) (w / 16777216 % 256)

-- the list with the 64-bit number w from a place on
unfoldable pub with_long : List ℕ → ℕ → ℕ → List ℕ
with_long b at w = with_word (with_word b at w) (at + 4) (w / 4294967296)

-- the four bytes of the low 32 bits of w, low byte first
unfoldable pub word_bytes : ℕ → List ℕ
word_bytes w = w % 256 ∷ w / 256 % 256 ∷ w / 65536 % 256 ∷ w / 16777216 % 256 ∷ []

-- the eight bytes of a 64-bit number, low byte first
unfoldable pub long_bytes : ℕ → List ℕ
long_bytes w = word_bytes w ++ word_bytes (w / 4294967296)
