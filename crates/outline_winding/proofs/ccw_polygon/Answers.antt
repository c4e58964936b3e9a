-- `outline_winding::ccw_polygon` meets its contract. Assumes nothing.
use mathlib.Core.Path.{sym}
use native.Mathlib.Omega.{arith}
use Prim.Native.Nat.{◌*◌}
use lib.Seq.{length-take-le}
use Rattle.outline.proofs.Copies.{holds_within, ccw_kept, ccw_reversed}
use borrow.Author.Rules.{rules}
use Rattle.outline_winding.proofs.ccw_polygon.Goals as goal

pub overflow_mul-n : goal.overflow_mul-n
overflow_mul-n c = omega (arith, holds_within c.clean_polygon-n.ensures)

pub slice_bounds-signed_area-end : goal.slice_bounds-signed_area-end
slice_bounds-signed_area-end c = omega (arith, holds_within c.clean_polygon-n.ensures)

pub slice_bounds-signed_area-end-2 : goal.slice_bounds-signed_area-end-2
slice_bounds-signed_area-end-2 c =
    let o = c.clean_polygon-n in
    sym (length-take-le (2 * o.result) o.new.out (holds_within o.ensures))

pub reverse-requires : goal.reverse-requires
reverse-requires c = holds_within c.clean_polygon-n.ensures

pub returns-then-signed_area : goal.returns-then-signed_area
returns-then-signed_area c =
    let o = c.clean_polygon-n in
    let a = c.args in
    ccw_reversed a.v.now o.result _ _ o.ensures c.signed_area.ensures _ c.if-signed_area.true c.reverse.ensures

pub returns : goal.returns
returns c =
    let o = c.clean_polygon-n in
    let a = c.args in
    ccw_kept a.v.now o.result _ _ o.ensures c.signed_area.ensures c.if-signed_area.false
