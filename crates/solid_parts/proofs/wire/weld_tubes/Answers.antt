-- `solid_parts::wire::weld_tubes` meets its contract. Assumes nothing.
use native.Mathlib.Omega.{arith}
use mathlib.Core.Path.{◌≡◌, refl}
use Prim.Native.Nat.{ℕ, ◌+◌, ◌-◌, ◌/◌, ◌≤◌, ◌<◌}
use lib.ListN.{length}
use Rattle.solid_parts.proofs.PartRuns.{tube_at, tubes_all, loop_none, loop_later}
use Rattle.solid_parts.proofs.wire.weld_tubes.Goals as goal

pub loop-i-init : goal.loop-i-init
loop-i-init c = let x = c.args in (omega arith, refl, loop_none (tube_at x.cylindrical x.list.now x.segments x.r) _ c.requires.ready)

pub weld_tube_part-requires : goal.weld_tube_part-requires
weld_tube_part-requires c = record { ready = c.loop-i.invariant.2.runs.ready; segments_bound = (c.requires.segments_bound, omega (arith, c.loop-i.invariant.1)) }

pub loop-i-preserved : goal.loop-i-preserved
loop-i-preserved c =
    let x = c.args in
    let l = c.loop-i in
    (omega arith, l.invariant.1, loop_later (tube_at x.cylindrical x.list.now x.segments x.r) (l.i - 1) (l.i + 1 - 1) (omega arith) _ _ _ l.invariant.2 c.weld_tube_part.ensures)

pub returns : goal.returns
returns c = let l = c.loop-i in tubes_all _ _ _ _ (l.i - 1) _ _ (omega (arith, l.invariant.0, l.invariant.1)) l.invariant.2
