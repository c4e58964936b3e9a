-- `solid_parts::wire::weld_joints` meets its contract. Assumes nothing.
use mathlib.Core.Path.{◌≡◌}
use Prim.Native.Nat.{ℕ, ◌-◌, ◌/◌, ◌≤◌}
use lib.ListN.{length}
use Rattle.weld.specs.Welding.{WeldsParts}
use Rattle.solid_spec.specs.Boxes.{parts}
use Rattle.solid_parts.proofs.PartRuns.{joint_at}
use Rattle.solid_parts.proofs.wire.weld_joints.Given as goal

abbrev pub invariant-loop-j : goal.invariant-loop-j
invariant-loop-j l =
    (l.j - 2 ≤ l.n - 2)
    × (l.n ≡ length l.list / 3)
    × WeldsParts (parts (l.j - 2) (joint_at l.cylindrical l.list l.options.segments l.r l.options.sphere_rings)) l.initial.w l.w
