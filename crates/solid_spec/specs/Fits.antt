-- What the theorems ask of the points and floats that are given: docs/SCOPE.md, "Words of demand 3". Definitions only.
use Rattle.std.specs.Prelude.{◌≡◌, false, List, ℕ, T, get_or, Float}
use Rattle.std.specs.Float.{nan, binary64}
use Rattle.std.specs.Float.Ieee.{eq, fits}
use Rattle.std.specs.Float.Ieee.Scale.{finite}
use Rattle.math.specs.declared.Vec3.{Vec3}

-- the coordinates are finite
pub record FiniteV (p : Vec3) : Type 0 where
  pub x : T (finite p.x)
  pub y : T (finite p.y)
  pub z : T (finite p.z)

-- the coordinates are floats of the format, as those of a program are
pub record FitsV (p : Vec3) : Type 0 where
  pub x : T (fits binary64 p.x)
  pub y : T (fits binary64 p.y)
  pub z : T (fits binary64 p.z)

-- the floats of a list are of the format, as those of a slice are
abbrev pub FitsAll : List Float → Type 0
FitsAll v = (i : ℕ) → T (fits binary64 (get_or v i nan))

-- two ends of a box as given: floats of the format, finite, and unequal as floats on each axis
pub record UnequalEnds (a b : Vec3) : Type 0 where
  pub fits_a : FitsV a
  pub fits_b : FitsV b
  pub finite_a : FiniteV a
  pub finite_b : FiniteV b
  pub unequal_x : eq a.x b.x ≡ false
  pub unequal_y : eq a.y b.y ≡ false
  pub unequal_z : eq a.z b.z ≡ false
