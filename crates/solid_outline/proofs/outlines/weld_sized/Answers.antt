-- `solid_outline::outlines::weld_sized` meets its contract. Assumes nothing.
use borrow.Author.Rules.{rules}
use native.Mathlib.Omega.{arith}
use mathlib.Core.Path.{sym}
use Prim.Native.Nat.{◌*◌}
use lib.Seq.{length-take-le}
use Rattle.outline.proofs.Copies.{holds_within}
use Rattle.solid_outline.proofs.OutlineRuns.{ccw_few, polygon_runs}
use Rattle.solid_outline.proofs.outlines.weld_sized.Goals as goal

pub whole_as_slice-ccw_polygon : goal.whole_as_slice-ccw_polygon
whole_as_slice-ccw_polygon g c = omega (arith, c.requires.n_bound.3)

pub overflow_mul-m : goal.overflow_mul-m
overflow_mul-m g c = omega (arith, holds_within c.ccw_polygon-len.ensures)

pub slice_bounds-weld_extruded_from-end : goal.slice_bounds-weld_extruded_from-end
slice_bounds-weld_extruded_from-end g c =
    let o = c.ccw_polygon-len in
    sym (length-take-le (2 * o.result) o.new.out (holds_within o.ensures))

pub weld_extruded_from-requires : goal.weld_extruded_from-requires
weld_extruded_from-requires g c =
    let o = c.ccw_polygon-len in
    let d = c in record {
      ready = d.requires.ready;
      n_bound = (
        d.requires.n_bound.0,
        omega (arith, ccw_few _ _ o.ensures.count d.requires.n_bound.1, length-take-le (2 * o.result) o.new.out (holds_within o.ensures)),
      );
    }

pub returns : goal.returns
returns g c = polygon_runs _ _ _ _ _ _ _ c.ccw_polygon-len.ensures.front c.weld_extruded_from.ensures
