-- A slice of bytes that is filled with text from a place on. Definitions only.
use Rattle.std.specs.Prelude.{◌≡◌, cond, List, [], ◌∷◌, ℕ, ◌+◌, ltb, length, set}

-- the bytes of a slice, and the place where text goes on
pub record Line : Type 0 where
  pub bytes : List ℕ
  pub at : ℕ

abbrev pub line : List ℕ → ℕ → Line
line b at = record { bytes = b; at = at }

-- a byte at the place where text goes on; where the slice has no such place, nothing
unfoldable pub with_byte : ℕ → Line → Line
with_byte x l = cond (ltb l.at (length l.bytes)) (line (set l.bytes l.at x) (l.at + 1)) l

-- the bytes of a text one after the other, as far as the slice reaches
unfoldable pub with_text : List ℕ → Line → Line
with_text [] l = l
with_text (x ∷ t) l = with_text t (with_byte x l)

-- a line that a text leaves of another
pub record Puts (t : List ℕ) (before after : Line) : Type 0 where
  pub is : after ≡ with_text t before
