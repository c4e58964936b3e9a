-- The points of a sheet, and what the code asks to compute them. Definitions only.
use Rattle.std.specs.Prelude.{ℕ}
use Rattle.math.specs.declared.Vec3.{Vec3}
use Rattle.surface.specs.Within.{Within}
use Rattle.surface.specs.Turns.{Tabled}
use Rattle.surface_spec.specs.Surface.{surface_at}
use Rattle.solid_grid.specs.declared.sheet.Sheet.{Sheet}

-- the points from (0, 0) to (i, j) can be computed: the surface is within docs/SCOPE.md's bounds, and the tables are filled so far
abbrev pub SheetWithin : Sheet → ℕ → ℕ → Type 0
SheetWithin x i j = Within x.corners.now x.s i j × Tabled x.s x.rows.now x.cols.now i j

-- the point (i, j)
abbrev pub sheet_at : Sheet → ℕ → ℕ → Vec3
sheet_at x = surface_at x.corners.now x.s
