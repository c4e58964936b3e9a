-- `solid_grid::grid::weld_column` meets its contract. Assumes nothing.
use borrow.Author.Tests.{ltb-true}
use Prim.Native.Nat.{ℕ, ◌+◌, ◌≤◌, ◌<◌, zero-le}
use native.Mathlib.Omega.{arith}
use Rattle.solid_grid.specs.Sheet.{sheet_at}
use Rattle.solid_grid.proofs.Cells.{sheet_less, cell_welds, grid_none, column_more}
use Rattle.solid_grid.proofs.grid.weld_column.Goals as goal

pub point-a-requires : goal.point-a-requires
point-a-requires c = sheet_less c.args.x.now c.args.nu 1 0 0 zero-le zero-le c.requires.nu_bound.1

pub point-d-requires : goal.point-d-requires
point-d-requires c = sheet_less c.args.x.now c.args.nu 1 0 1 zero-le (omega arith) c.requires.nu_bound.1

pub loop-i-init : goal.loop-i-init
loop-i-init c =
    (grid_none c.args.flip (sheet_at c.args.x.now) 1 _ c.requires.ready, c.point-a.ensures, c.point-d.ensures, (λ l. absurd (omega (arith, l))))

pub point-b-requires : goal.point-b-requires
point-b-requires c = sheet_less c.args.x.now c.args.nu 1 (c.loop-i.i + 1) 0 (omega arith) zero-le c.requires.nu_bound.1

pub point-c-requires : goal.point-c-requires
point-c-requires c = sheet_less c.args.x.now c.args.nu 1 (c.loop-i.i + 1) 1 (omega arith) (omega arith) c.requires.nu_bound.1

pub weld_in_column-q-requires : goal.weld_in_column-q-requires
weld_in_column-q-requires c = let l = c.loop-i in record { ready = l.invariant.0.runs.ready; known = (λ e. l.invariant.3 (ltb-true 0 l.i e)) }

pub loop-i-preserved : goal.loop-i-preserved
loop-i-preserved c =
    let l = c.loop-i in
    let p = c.point-b.ensures in
    let q = c.point-c.ensures in
    let n = c.weld_in_column-q.ensures in (
      column_more c.args.flip (sheet_at c.args.x.now) l.i _ _ _ _ _ _ _ l.invariant.1 p q l.invariant.2 l.invariant.0 (cell_welds n),
      p,
      q,
      (λ _. (n.numbered.known_b, n.numbered.known_c)),
    )
