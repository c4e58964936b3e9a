-- Numbers as text, and text at the right end of a field. Definitions only.
use Rattle.std.specs.Prelude.{cond, List, [], ◌∷◌, ◌++◌, ℕ, zero, suc, ◌+◌, ◌-◌, ◌/◌, ◌%◌, ltb, length, replicate}
use Rattle.io.specs.Digits.{last_digits}

-- the decimal digits of a number of at most k digits, without zeros in front
unfoldable pub decimal_within : ℕ → ℕ → List ℕ
decimal_within zero n = []
decimal_within (suc k) n = cond (ltb n 10) ((48 + n) ∷ []) (decimal_within k (n / 10) ++ ((48 + n % 10) ∷ []))

-- the decimal digits of a number below 10^20, as every 64-bit number is
abbrev pub decimal_of : ℕ → List ℕ
decimal_of n = decimal_within 20 n

-- the last 16 hexadecimal digits of a number, in lower case
unfoldable pub hex_of : ℕ → List ℕ
hex_of n = last_digits 16 16 n

-- a text after as many spaces as fill a field of w places; a longer text as it is
abbrev pub right_of : ℕ → List ℕ → List ℕ
right_of w t = replicate (w - length t) 32 ++ t
