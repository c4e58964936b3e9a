-- What the code's searches ask of the array that holds the Rust's idx. Assumes nothing.
use Rattle.std.specs.Prelude.{ℕ, ◌+◌, ◌*◌, ◌<◌, ◌≤◌, ◌≡◌, List, length, get_or, take, Float}
use Rattle.outline_ears.specs.declared.Remaining.{Remaining}

-- idx has 512 places, and the first m numbers in it are corners of v
pub record Inside (v : List Float) (idx : List ℕ) (m : ℕ) : Type 0 where
  pub long : length idx ≡ 512
  pub small : m ≤ 512
  pub there : (i : ℕ) → i < m → 2 * get_or idx i 0 + 1 < length v

-- the Rust's idx, of the code's array and count
abbrev pub idx_of : Remaining → List ℕ
idx_of w = take w.m w.idx
