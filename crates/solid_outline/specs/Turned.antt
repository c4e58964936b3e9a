-- `rotpoly` of src/tessellate.rs over a surface: its sides, and its caps where the turn is not full. Definitions only.
use Rattle.std.specs.Prelude.{Bool, true, cond, List, [], ◌++◌, ℕ, ◌≤◌, length, Float}
use Rattle.ieee.specs.Number.{tau}
use Rattle.surface_spec.specs.declared.Surface.{Surface}
use Rattle.surface_spec.specs.Surface.{surface_at}
use Rattle.solid_spec.specs.Grid.{Soup, grid}
use Rattle.solid_spec.specs.Polygons.{cap_triangles}
use Rattle.solid_grid.specs.declared.sheet.Sheet.{Sheet}
use Rattle.solid_grid.specs.Sheet.{SheetWithin}
use Rattle.solid_caps.specs.Caps.{caps_of}
use Rattle.solid_caps.specs.Ends.{CapsWithin}

-- the span of which `rotpoly` counts the segments: `if full { TAU } else { span }`
unfoldable pub turn_span : Bool → Float → Float
turn_span full span = cond full tau span

-- what the code asks of a sheet of len corners and n steps to weld its sides and its ends
pub record TurnWithin (x : Sheet) (len n : ℕ) : Type 0 where
  pub corners : length x.corners.now ≤ 1024
  pub few : len ≤ 1024
  pub steps : n ≤ 1024
  pub within : SheetWithin x len n
  pub near : CapsWithin x 0
  pub far : CapsWithin x n

-- `rotpoly` of a surface: its sides, and its ends where the turn is not full
abbrev pub turn_of : List Float → Surface → ℕ → ℕ → Bool → Soup
turn_of p s len n full = grid len n true (surface_at p s) ++ cond full [] (caps_of true (λ i. surface_at p s i 0) (λ i. surface_at p s i n) (cap_triangles p))
