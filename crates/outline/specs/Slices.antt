-- How the code's float slices hold corners; b is a slice before a call, a after it. Assumes nothing.
use Rattle.std.specs.Prelude.{ℕ, ◌+◌, ◌*◌, ◌≤◌, ◌≡◌, List, [], ◌∷◌, ◌++◌, length, take, drop, Float}
use Rattle.outline.specs.declared.Point.{Point}

-- corner m was written, and its point is p; the others are as before
pub record WroteCorner (m : ℕ) (p : Point) (b a : List Float) : Type 0 where
  pub front : take (2 * (m + 1)) a ≡ take (2 * m) b ++ (p.x ∷ p.y ∷ [])
  pub rest : drop (2 * (m + 1)) a ≡ drop (2 * (m + 1)) b

-- m corners became r, and they are o
pub record Grew (o : List Float) (m r : ℕ) (a : List Float) : Type 0 where
  pub front : take (2 * r) a ≡ o
  pub grows : m ≤ r
  pub most : r ≤ m + 1

-- the first r corners are o, and the rest is as before
pub record Copied (o : List Float) (r : ℕ) (b a : List Float) : Type 0 where
  pub count : 2 * r ≡ length o
  pub slice : a ≡ o ++ drop (length o) b

-- the first r corners are o
pub record Holds (o : List Float) (r : ℕ) (a : List Float) : Type 0 where
  pub count : 2 * r ≡ length o
  pub front : take (2 * r) a ≡ o
