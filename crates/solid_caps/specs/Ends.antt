-- The two ends of a sheet. Definitions only.
use Rattle.std.specs.Prelude.{ℕ}
use Rattle.std.specs.Prelude.{Option}
use Rattle.std.specs.Option.{ForSome}
use Rattle.math.specs.declared.Vec3.{Vec3}
use Rattle.solid_grid.specs.declared.sheet.Sheet.{Sheet}
use Rattle.solid_grid.specs.Sheet.{SheetWithin, sheet_at}

-- what the code asks of a sheet to compute the points of a cap, which lie at j
abbrev pub CapsWithin : Sheet → ℕ → Type 0
CapsWithin x j = (i : ℕ) → SheetWithin x i j

-- what it asks at the one end, and at the other if there is one
abbrev pub EndsWithin : Sheet → ℕ → Option ℕ → Type 0
EndsWithin x near far = CapsWithin x near × ForSome far (CapsWithin x)

-- the points in the column j
abbrev pub points_at : Sheet → ℕ → ℕ → Vec3
points_at x j i = sheet_at x i j
