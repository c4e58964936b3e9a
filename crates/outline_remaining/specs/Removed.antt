-- How the corners that remain stand after the Rust's idx.remove(k). Assumes nothing.
use Rattle.std.specs.Prelude.{ℕ, ◌+◌, ◌-◌, ◌%◌, ◌≡◌, List, length, set, Float}
use Rattle.outline_ears.specs.Inside.{Inside, idx_of}
use Rattle.outline_ears.specs.Kinds.{kind_at, Kinds}
use Rattle.outline_ears.specs.declared.CornerKind.{CornerKind}
use Rattle.outline_ears.specs.declared.Remaining.{Remaining}
use Rattle.outline_remaining.specs.Without.{without}

-- w' has the corners of w; its kinds may differ
pub record SameCorners (w w' : Remaining) : Type 0 where
  pub numbers : w'.idx ≡ w.idx
  pub count : w'.m ≡ w.m

-- the index of the corner before the one that went from index k, among the n that remain
unfoldable pub before : ℕ → ℕ → ℕ
before k n = (k + n - 1) % n

-- the index of the corner after it
unfoldable pub after : ℕ → ℕ → ℕ
after k n = k % n

-- kinds, with those at these two indices made anew from idx, the numbers of the corners that remain
unfoldable pub anew : List Float → Float → List ℕ → ℕ → List CornerKind → List CornerKind
anew v eps idx k kinds =
    set (set kinds (before k (length idx)) (kind_at v eps idx (before k (length idx))))
    (after k (length idx)) (kind_at v eps idx (after k (length idx)))

-- w remained before the corner at index k goes, w' after
pub record Removed (v : List Float) (eps : Float) (k : ℕ) (w w' : Remaining) : Type 0 where
  pub list : idx_of w' ≡ without k (idx_of w)
  pub count : w'.m ≡ w.m - 1
  pub inside : Inside v w'.idx w'.m
  pub kept : Kinds v eps w'.idx w'.kinds w'.m
