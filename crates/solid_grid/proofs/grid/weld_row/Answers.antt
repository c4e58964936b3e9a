-- `solid_grid::grid::weld_row` meets its contract. Assumes nothing.
use borrow.Author.Tests.{ltb-true}
use mathlib.Core.Path.{◌≡◌, refl, ap}
use Prim.Native.Nat.{ℕ, ◌+◌, ◌*◌, ◌≤◌, ◌<◌}
use native.Mathlib.Omega.{arith}
use mir.Val.{Fits}
use mir.Syntax.{w64}
use lib.ListN.{length, length-set}
use Rattle.weld.specs.Welding.{welds_as}
use Rattle.solid_spec.specs.Grid.{row}
use Rattle.solid_grid.specs.Sheet.{sheet_at}
use Rattle.solid_grid.proofs.Cells.{sheet_less, cell_welds, row_none, row_more}
use Rattle.solid_grid.proofs.grid.weld_row.Goals as goal

pub point-a-requires : goal.point-a-requires
point-a-requires c = let x = c.args in sheet_less x.x.now (x.i + 1) x.nv x.i 0 (omega arith) (omega arith) c.requires.i_bound.3

pub point-first-requires : goal.point-first-requires
point-first-requires c = let x = c.args in sheet_less x.x.now (x.i + 1) x.nv (x.i + 1) 0 (omega arith) (omega arith) c.requires.i_bound.3

pub loop-j-init : goal.loop-j-init
loop-j-init c =
    (row_none c.args.flip (sheet_at c.args.x.now) c.args.i _ c.requires.ready, c.point-a.ensures, c.point-first.ensures, refl, (λ l. absurd (omega (arith, l))))

pub point-d-requires : goal.point-d-requires
point-d-requires c = let x = c.args in sheet_less x.x.now (x.i + 1) x.nv x.i (c.loop-j.j + 1) (omega arith) (omega arith) c.requires.i_bound.3

pub point-c-requires : goal.point-c-requires
point-c-requires c = let x = c.args in sheet_less x.x.now (x.i + 1) x.nv (x.i + 1) (c.loop-j.j + 1) (omega arith) (omega arith) c.requires.i_bound.3

pub weld_in_row-q-requires : goal.weld_in_row-q-requires
weld_in_row-q-requires c = let l = c.loop-j in record { ready = l.invariant.0.runs.ready; known = (λ e. l.invariant.4 (ltb-true 0 l.j e)) }

pub loop-j-preserved : goal.loop-j-preserved
loop-j-preserved c =
    let l = c.loop-j in
    let d = c.point-d.ensures in
    let e = c.point-c.ensures in
    let n = c.weld_in_row-q.ensures in (
      row_more c.args.flip (sheet_at c.args.x.now) c.args.i l.j _ _ _ _ _ _ _ l.invariant.1 l.invariant.2 e d l.invariant.0 (cell_welds n),
      d,
      e,
      simp length-set l.invariant.3,
      (λ _. (n.numbered.known_d, n.numbered.known_c)),
    )
