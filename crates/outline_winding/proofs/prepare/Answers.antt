-- `outline_winding::prepare` meets its contract. Assumes nothing.
use mathlib.Core.Path.{sym}
use native.Mathlib.Omega.{arith}
use Prim.Native.Nat.{◌*◌}
use lib.Seq.{length-take-le}
use Rattle.outline.proofs.Copies.{holds_as, copied_short, copied_take, prepared_swapped, prepared_as_given}
use borrow.Author.Rules.{rules}
use Rattle.outline_winding.proofs.prepare.Goals as goal

pub overflow_mul-swapped : goal.overflow_mul-swapped
overflow_mul-swapped c = omega (arith, copied_short _ _ _ _ c.copy_swapped-m.ensures)

pub slice_bounds-swapped-end : goal.slice_bounds-swapped-end
slice_bounds-swapped-end c = omega (arith, copied_short _ _ _ _ c.copy_swapped-m.ensures)

pub slice_bounds-ccw_polygon-end : goal.slice_bounds-ccw_polygon-end
slice_bounds-ccw_polygon-end c =
    let o = c.copy_swapped-m in
    sym (length-take-le (2 * o.result) o.new.out (omega (arith, copied_short _ _ _ _ o.ensures)))

pub ccw_polygon-requires : goal.ccw_polygon-requires
ccw_polygon-requires c =
    let o = c.copy_swapped-m in
    omega (arith, copied_short _ _ _ _ o.ensures, length-take-le (2 * o.result) o.new.out (omega (arith, copied_short _ _ _ _ o.ensures)))

pub returns-then-swap : goal.returns-then-swap
returns-then-swap c =
    let a = c.args in
    let k = c.copy_swapped-m in
    holds_as (prepared_swapped a.list.now _ a.swap c.if-swap.true (copied_take a.list.now k.result _ _ k.ensures))
    c.ccw_polygon.ensures

pub returns : goal.returns
returns c =
    let a = c.args in
    holds_as (prepared_as_given a.list.now a.swap c.if-swap.false) c.ccw_polygon-2.ensures
