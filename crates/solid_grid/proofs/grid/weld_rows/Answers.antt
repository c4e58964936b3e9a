-- `solid_grid::grid::weld_rows` meets its contract. Assumes nothing.
use native.Mathlib.Omega.{arith}
use mathlib.Core.Path.{◌≡◌, refl, ◌∙◌}
use Prim.Native.Nat.{ℕ, ◌+◌, ◌≤◌}
use Rattle.solid_grid.specs.Sheet.{sheet_at}
use Rattle.solid_grid.proofs.Cells.{sheet_less, grid_none, grid_more}
use Rattle.solid_grid.proofs.grid.weld_rows.Goals as goal

pub loop-i-init : goal.loop-i-init
loop-i-init c = (grid_none c.args.flip (sheet_at c.args.x.now) c.args.nv _ c.requires.ready, refl)

pub weld_row-requires : goal.weld_row-requires
weld_row-requires c =
    let x = c.args in
    let l = c.loop-i in record {
      ready = l.invariant.0.runs.ready;
      i_bound = (
        omega (arith, c.requires.nu_bound.0),
        c.requires.nu_bound.1,
        omega (arith, l.invariant.1, c.requires.nu_bound.2),
        sheet_less x.x.now x.nu x.nv (l.i + 1) x.nv (omega arith) (omega arith) c.requires.nu_bound.3,
      );
    }

pub loop-i-preserved : goal.loop-i-preserved
loop-i-preserved c =
    let l = c.loop-i in (
      grid_more c.args.flip (sheet_at c.args.x.now) l.i c.args.nv _ _ _ l.invariant.0 c.weld_row.ensures,
      c.weld_row.auto.numbers ∙ l.invariant.1,
    )
