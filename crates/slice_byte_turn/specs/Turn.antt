-- What the two functions ask of their slices, and two numbers exchanged. Definitions only.
use Rattle.std.specs.Prelude.{◌≡◌, List, ℕ, ◌+◌, ◌-◌, ◌*◌, ◌/◌, ◌≤◌, ◌<◌, length, take, get_or, replicate}
use Rattle.slice_bytes.specs.Bytes.{word_at, with_word}

-- the numbers of v fit into b, and each of them, raised by base, is a 32-bit number
pub record Raised (v : List ℕ) (base : ℕ) (b : List ℕ) : Type 0 where
  pub room : 4 * length v ≤ length b
  pub below : (i : ℕ) → i < length v → get_or v i 0 + base < 4294967296

-- b is whole 32-bit numbers, of which all but the last n are zero
pub record ZeroBefore (b : List ℕ) (n : ℕ) : Type 0 where
  pub whole : 4 * (length b / 4) ≡ length b
  pub within : 4 * n ≤ length b
  pub zeros : take (length b - 4 * n) b ≡ replicate (length b - 4 * n) 0

-- numbers i and j of b exchanged
unfoldable pub exchanged : List ℕ → ℕ → ℕ → List ℕ
exchanged b i j = with_word (with_word b (4 * i) (word_at b (4 * j))) (4 * j) (word_at b (4 * i))
