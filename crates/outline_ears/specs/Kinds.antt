-- What the crosses make of the corners that remain, which the code keeps in an array. Assumes nothing.
use Rattle.std.specs.Prelude.{ℕ, ◌<◌, ◌≡◌, Bool, true, false, cond, List, length, get_or, take, Option, Float}
use Rattle.std.specs.Float.Ieee.{le}
use Rattle.ieee.specs.Number.{absolute}
use Rattle.outline_ears.specs.Ears.{cross_at, find, counting}
use Rattle.outline_ears.specs.declared.CornerKind.{CornerKind}
use Rattle.outline_ears.specs.declared.CornerKind.TheVariants.{Ear, Flat, Neither}

-- what a cross makes of its corner, by the Rust's tests: an ear where `cross <= eps` fails, flat where `cross.abs() <= eps` holds, neither elsewhere
unfoldable pub kind_of : Float → Float → CornerKind
kind_of eps x = cond (le x eps) (cond (le (absolute x) eps) Flat Neither) Ear

-- the kind of the corner at index k
abbrev pub kind_at : List Float → Float → List ℕ → ℕ → CornerKind
kind_at v eps idx k = kind_of eps (cross_at v idx k)

-- kinds has 512 places, and holds at each index below m the kind of the corner there, where the Rust's idx is the first m numbers of the array idx
pub record Kinds (v : List Float) (eps : Float) (idx : List ℕ) (kinds : List CornerKind) (m : ℕ) : Type 0 where
  pub long : length kinds ≡ 512
  pub there : (k : ℕ) → k < m → get_or kinds k Ear ≡ kind_at v eps (take m idx) k

unfoldable pub is_ear_kind : CornerKind → Bool
is_ear_kind Ear = true
is_ear_kind Flat = false
is_ear_kind Neither = false

unfoldable pub is_flat_kind : CornerKind → Bool
is_flat_kind Ear = false
is_flat_kind Flat = true
is_flat_kind Neither = false

-- the corner at index k is flat, by the kind that is held there
unfoldable pub is_flat_of : List CornerKind → ℕ → Bool
is_flat_of kinds k = is_flat_kind (get_or kinds k Ear)

-- the first flat corner, by the kinds held at the indices below m: first_flat where they are Kinds (proofs/Laws.antt, first_flat_by)
unfoldable pub first_flat_of : List CornerKind → ℕ → Option ℕ
unfolding find counting
first_flat_of kinds m = find (is_flat_of kinds) (counting 0 m)
