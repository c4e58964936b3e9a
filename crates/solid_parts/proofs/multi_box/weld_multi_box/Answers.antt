-- `solid_parts::multi_box::weld_multi_box` meets its contract. Assumes nothing.
use native.Mathlib.Omega.{arith}
use mathlib.Core.Path.{◌≡◌, refl}
use Prim.Native.Nat.{ℕ, ◌/◌, ◌≤◌, ◌<◌}
use lib.ListN.{length}
use Rattle.solid_parts.proofs.PartRuns.{box_at, boxes_all, loop_none, loop_more}
use Rattle.solid_parts.proofs.multi_box.weld_multi_box.Goals as goal

pub loop-i-init : goal.loop-i-init
loop-i-init c = let x = c.args in (refl, loop_none (box_at x.cylindrical x.list.now x.segments) _ c.requires.ready)

pub weld_box_part-requires : goal.weld_box_part-requires
weld_box_part-requires c = record { ready = c.loop-i.invariant.1.runs.ready; segments_bound = (c.requires.segments_bound, omega (arith, c.loop-i.invariant.0)) }

pub loop-i-preserved : goal.loop-i-preserved
loop-i-preserved c =
    let x = c.args in
    let l = c.loop-i in
    (l.invariant.0, loop_more (box_at x.cylindrical x.list.now x.segments) l.i _ _ _ l.invariant.1 c.weld_box_part.ensures)

pub returns : goal.returns
returns c = let l = c.loop-i in boxes_all _ _ _ l.i _ _ (omega (arith, l.invariant.0)) l.invariant.1
