-- `solid_grid::grid::weld_row` meets its contract. Assumes nothing.
use mathlib.Core.Path.{◌≡◌}
use Prim.Native.Nat.{ℕ, ◌+◌, ◌<◌}
use lib.ListN.{length}
use Rattle.weld.specs.Welding.{Welds}
use Rattle.weld_quad.specs.Quads.{Known}
use Rattle.solid_spec.specs.Grid.{row}
use Rattle.solid_grid.specs.Sheet.{sheet_at}
use Rattle.solid_grid.proofs.grid.weld_row.Given as goal

abbrev pub invariant-loop-j : goal.invariant-loop-j
invariant-loop-j l =
    Welds (row l.j l.flip (sheet_at l.x) l.i) l.initial.w l.w
    × (l.a ≡ sheet_at l.x l.i l.j)
    × (l.b ≡ sheet_at l.x (l.i + 1) l.j)
    × (length l.numbers ≡ length l.initial.numbers)
    × (0 < l.j → Known l.w.st l.w.vertices.now l.a l.na × Known l.w.st l.w.vertices.now l.b l.nb)
