-- `solid_parts::wire::weld_joints` meets its contract. Assumes nothing.
use native.Mathlib.Omega.{arith}
use mathlib.Core.Path.{◌≡◌, refl, ap}
use mathlib.Core.List.{List, []}
use Prim.Native.Nat.{ℕ, ◌+◌, ◌-◌, ◌/◌, ◌≤◌, ◌<◌}
use lib.ListN.{length}
use Rattle.solid_parts.proofs.PartRuns.{joint_at, joints_all, joint_one, loop_none, loop_later}
use Rattle.solid_parts.proofs.wire.weld_joints.Goals as goal

pub loop-j-init : goal.loop-j-init
loop-j-init c = let x = c.args in (omega arith, refl, loop_none (joint_at x.cylindrical x.list.now x.options.segments x.r x.options.sphere_rings) _ c.requires.ready)

pub weld_joint_part-requires : goal.weld_joint_part-requires
weld_joint_part-requires c =
    let p = c.requires.segments_bound in
    record { ready = c.loop-j.invariant.2.runs.ready; segments_bound = (p.0, p.1, omega (arith, c.loop-j.invariant.1)) }

pub loop-j-preserved : goal.loop-j-preserved
loop-j-preserved c =
    let x = c.args in
    let l = c.loop-j in (
      omega arith,
      l.invariant.1,
      loop_later (joint_at x.cylindrical x.list.now x.options.segments x.r x.options.sphere_rings) (l.j - 2) (l.j + 1 - 2) (omega arith) _ _ _ l.invariant.2
          (joint_one _ _ _ _ _ (l.j - 2) (l.j - 1) (omega arith) _ _ c.weld_joint_part.ensures),
    )

pub returns : goal.returns
returns c = let l = c.loop-j in joints_all _ _ _ _ _ (l.j - 2) _ _ (omega (arith, l.invariant.0, l.invariant.1)) l.invariant.2
