-- `solid_grid::grid::weld_rows` meets its contract. Assumes nothing.
use mathlib.Core.Path.{◌≡◌}
use lib.ListN.{length}
use Rattle.weld.specs.Welding.{Welds}
use Rattle.solid_spec.specs.Grid.{grid}
use Rattle.solid_grid.specs.Sheet.{sheet_at}
use Rattle.solid_grid.proofs.grid.weld_rows.Given as goal

abbrev pub invariant-loop-i : goal.invariant-loop-i
invariant-loop-i l =
    Welds (grid l.i l.nv l.flip (sheet_at l.x)) l.initial.w l.w
    × (length l.numbers ≡ length l.initial.numbers)
