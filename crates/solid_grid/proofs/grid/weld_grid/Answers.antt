-- `solid_grid::grid::weld_grid` meets its contract. Assumes nothing.
use mathlib.Core.Path.{sym, ap}
use Prim.Native.Nat.{ℕ, ◌≤◌}
use native.Mathlib.Omega.{arith}
use Rattle.weld.specs.Welding.{welds_as}
use Rattle.solid_spec.specs.Grid.{grid}
use Rattle.solid_grid.specs.Sheet.{sheet_at}
use Rattle.solid_grid.proofs.Cells.{sheet_less}
use Rattle.solid_grid.proofs.grid.weld_grid.Goals as goal

pub weld_column-requires : goal.weld_column-requires
weld_column-requires c =
    let x = c.args in
    let t = c.if-nv-eq1.true in
    record { ready = c.requires.ready; nu_bound = (c.requires.nu_bound.0, sheet_less x.x.now x.nu x.nv x.nu 1 (omega arith) (omega (arith, t)) c.requires.nu_bound.3) }

pub returns-then-nv-eq1 : goal.returns-then-nv-eq1
returns-then-nv-eq1 c =
    let x = c.args in
    welds_as (ap (λ (n : ℕ). grid x.nu n x.flip (sheet_at x.x.now)) (sym c.if-nv-eq1.true)) c.weld_column.ensures
