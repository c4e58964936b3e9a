-- `solid_grid::grid::weld_column` meets its contract. Assumes nothing.
use mathlib.Core.Path.{◌≡◌}
use Prim.Native.Nat.{ℕ, ◌<◌}
use Rattle.weld.specs.Welding.{Welds}
use Rattle.weld_quad.specs.Quads.{Known}
use Rattle.solid_spec.specs.Grid.{grid}
use Rattle.solid_grid.specs.Sheet.{sheet_at}
use Rattle.solid_grid.proofs.grid.weld_column.Given as goal

abbrev pub invariant-loop-i : goal.invariant-loop-i
invariant-loop-i l =
    Welds (grid l.i 1 l.flip (sheet_at l.x)) l.initial.w l.w
    × (l.a ≡ sheet_at l.x l.i 0)
    × (l.d ≡ sheet_at l.x l.i 1)
    × (0 < l.i → Known l.w.st l.w.vertices.now l.a l.na × Known l.w.st l.w.vertices.now l.d l.nd)
