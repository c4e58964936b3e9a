-- `solid_parts::multi_box::weld_multi_box` meets its contract. Assumes nothing.
use mathlib.Core.Path.{◌≡◌}
use Prim.Native.Nat.{ℕ, ◌-◌, ◌/◌}
use lib.ListN.{length}
use Rattle.weld.specs.Welding.{WeldsParts}
use Rattle.solid_spec.specs.Boxes.{parts}
use Rattle.solid_parts.proofs.PartRuns.{box_at}
use Rattle.solid_parts.proofs.multi_box.weld_multi_box.Given as goal

abbrev pub invariant-loop-i : goal.invariant-loop-i
invariant-loop-i l = (l.n ≡ length l.list / 6) × WeldsParts (parts l.i (box_at l.cylindrical l.list l.segments)) l.initial.w l.w
