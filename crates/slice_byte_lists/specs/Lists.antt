-- Lists of floats and of 32-bit numbers, one after the other in bytes. Definitions only.
use Rattle.std.specs.Prelude.{List, [], ◌∷◌, ◌++◌, ℕ, suc, zero, ◌*◌, get_or, Float}
use Rattle.std.specs.Float.{binary64, nan}
use Rattle.std.specs.Float.Ieee.{to_bits}
use Rattle.slice_bytes.specs.Bytes.{word_at, float_at, with_word, with_long, word_bytes, long_bytes}

-- the first n floats
unfoldable pub floats_of : ℕ → List ℕ → List Float
floats_of zero b = []
floats_of (suc n) b = floats_of n b ++ (float_at b (8 * n) ∷ [])

-- the first n 32-bit numbers
unfoldable pub words_of : ℕ → List ℕ → List ℕ
words_of zero b = []
words_of (suc n) b = words_of n b ++ (word_at b (4 * n) ∷ [])

-- the bytes with the first n floats of v written from their start on; a NaN is written as 7FF8000000000000
unfoldable pub with_floats : ℕ → List Float → List ℕ → List ℕ
with_floats zero v b = b
with_floats (suc n) v b = with_long (with_floats n v b) (8 * n) (to_bits binary64 (get_or v n nan))

-- the bytes with the first n numbers of v written from their start on
unfoldable pub with_words : ℕ → List ℕ → List ℕ → List ℕ
with_words zero v b = b
with_words (suc n) v b = with_word (with_words n v b) (4 * n) (get_or v n 0)

-- the bytes of 32-bit numbers, one after the other
unfoldable pub bytes_of_words : List ℕ → List ℕ
bytes_of_words [] = []
bytes_of_words (w ∷ ws) = word_bytes w ++ bytes_of_words ws

-- the bytes of floats, one after the other; a NaN is written as 7FF8000000000000
unfoldable pub bytes_of_floats : List Float → List ℕ
bytes_of_floats [] = []
bytes_of_floats (x ∷ xs) = long_bytes (to_bits binary64 x) ++ bytes_of_floats xs
