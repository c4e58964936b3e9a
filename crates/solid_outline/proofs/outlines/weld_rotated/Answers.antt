-- `solid_outline::outlines::weld_rotated` meets its contract. Assumes nothing.
use borrow.Author.Rules.{rules}
use native.Mathlib.Omega.{arith}
use mathlib.Core.Path.{refl, sym}
use Prim.Native.Nat.{◌*◌}
use lib.Seq.{length-take-le}
use Rattle.outline.proofs.Copies.{holds_within}
use Rattle.solid_outline.proofs.OutlineRuns.{prepared_few, rotpoly_runs}
use Rattle.solid_outline.proofs.outlines.weld_rotated.Goals as goal

pub overflow_sub-q : goal.overflow_sub-q
overflow_sub-q c = omega (arith, c.requires.segments_bound.2)

pub overflow_sub-q-2 : goal.overflow_sub-q-2
overflow_sub-q-2 c = omega (arith, c.requires.segments_bound.2)

pub swaps-swap-requires : goal.swaps-swap-requires
swaps-swap-requires c = refl

pub overflow_mul-m : goal.overflow_mul-m
overflow_mul-m c = omega (arith, holds_within c.prepare-len.ensures)

pub slice_bounds-corners-end : goal.slice_bounds-corners-end
slice_bounds-corners-end c = holds_within c.prepare-len.ensures

pub slice_bounds-weld_rotated_from-end : goal.slice_bounds-weld_rotated_from-end
slice_bounds-weld_rotated_from-end c =
    let o = c.prepare-len in
    sym (length-take-le (2 * o.result) o.new.out (holds_within o.ensures))

pub weld_rotated_from-requires : goal.weld_rotated_from-requires
weld_rotated_from-requires c =
    let o = c.prepare-len in
    let d = c in record {
      ready = d.requires.ready;
      segments_bound = (
        d.requires.segments_bound.0,
        omega (arith, prepared_few _ _ _ o.ensures.count d.requires.segments_bound.1, length-take-le (2 * o.result) o.new.out (holds_within o.ensures)),
      );
    }

pub returns : goal.returns
returns c =
    rotpoly_runs _ _ _ _ _ _ _ _ _ _ _ refl c.swaps-swap.ensures c.prepare-len.ensures.front c.weld_rotated_from.ensures
