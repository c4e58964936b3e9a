-- `solid_parts::wire::weld_tubes` meets its contract. Assumes nothing.
use mathlib.Core.Path.{◌≡◌}
use Prim.Native.Nat.{ℕ, ◌-◌, ◌/◌, ◌≤◌}
use lib.ListN.{length}
use Rattle.weld.specs.Welding.{WeldsParts}
use Rattle.solid_spec.specs.Boxes.{parts}
use Rattle.solid_parts.proofs.PartRuns.{tube_at}
use Rattle.solid_parts.proofs.wire.weld_tubes.Given as goal

abbrev pub invariant-loop-i : goal.invariant-loop-i
invariant-loop-i l =
    (l.i - 1 ≤ l.n - 1)
    × (l.n ≡ length l.list / 3)
    × WeldsParts (parts (l.i - 1) (tube_at l.cylindrical l.list l.segments l.r)) l.initial.w l.w
