-- How the code's state stands for the definition's; b is the triangle slice before a call, a after it. Assumes nothing.
use Rattle.std.specs.Prelude.{ℕ, ◌+◌, ◌-◌, ◌*◌, ◌^◌, ◌<◌, ◌≤◌, ◌≡◌, List, [], ◌++◌, length, take, drop, Float}
use Rattle.outline_ears.specs.Inside.{Inside, idx_of}
use Rattle.outline_ears.specs.Kinds.{Kinds}
use Rattle.outline_ears.specs.declared.Remaining.{Remaining}
use Rattle.outline_triangulate.specs.Triangulate.{Clipping, pass, passes}
use Rattle.outline_triangulate.specs.declared.Cut.{Cut}

-- the triangles from t up to t' of a are those of new; those before are b's, and so is what comes after
pub record WroteTriangles (t t' : ℕ) (new b a : List ℕ) : Type 0 where
  pub front : take (3 * t') a ≡ take (3 * t) b ++ new
  pub rest : drop (3 * t') a ≡ drop (3 * t') b

-- the definition's state where idx has the corners that remain, c the counts, and the triangles stand at the start of out
abbrev pub clipping_of : List ℕ → Cut → List ℕ → Clipping
clipping_of idx c out = record { idx = idx; triangles = take (3 * c.triangles) out; removed = c.removed }

-- the counts at the start
abbrev pub none : Cut
none = record { triangles = 0; removed = 0 }

-- where m corners remain and c has the counts, out has room for the m - 2 triangles that they give at most (none where m is 2 or less), and the counts are
-- small
pub record Room (m : ℕ) (c : Cut) (out : List ℕ) : Type 0 where
  pub room : 3 * c.triangles + 3 * (m - 2) ≤ length out
  pub few : c.removed + m ≤ 512
  pub short : length out < 2 ^ 62

-- a pass over the corners w, with the counts c, left w' and c'
pub record Passing (v : List Float) (eps : Float) (w : Remaining) (c : Cut) (b : List ℕ) (w' : Remaining) (c' : Cut) (a : List ℕ) : Type 0 where
  pub inside : Inside v w'.idx w'.m
  pub kept : Kinds v eps w'.idx w'.kinds w'.m
  pub room : Room w'.m c' a
  pub state : clipping_of (idx_of w') c' a ≡ pass v eps (clipping_of (idx_of w) c b)
  pub rest : drop (3 * c'.triangles) a ≡ drop (3 * c'.triangles) b
  pub grows : c.triangles ≤ c'.triangles
  pub falls : w'.m < w.m

-- w' and c are what the passes leave of w, with the Rust's guard, the square of the number of corners
pub record Passes (v : List Float) (eps : Float) (w : Remaining) (b : List ℕ) (w' : Remaining) (c : Cut) (a : List ℕ) : Type 0 where
  pub state : clipping_of (idx_of w') c a ≡ passes (w.m * w.m) v eps (clipping_of (idx_of w) none b)
  pub rest : drop (3 * c.triangles) a ≡ drop (3 * c.triangles) b
  pub few : w'.m ≤ 3
  pub inside : Inside v w'.idx w'.m
  pub room : Room w'.m c a

-- the triangles of s stand at the start of a, the rest is as before, and r has the counts
pub record CutAs (s : Clipping) (r : Cut) (b a : List ℕ) : Type 0 where
  pub slice : a ≡ s.triangles ++ drop (length s.triangles) b
  pub count : length s.triangles ≡ 3 * r.triangles
  pub removed : r.removed ≡ s.removed
