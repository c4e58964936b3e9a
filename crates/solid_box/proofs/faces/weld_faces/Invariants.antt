-- `solid_box::faces::weld_faces` meets its contract. Assumes nothing.
use mathlib.Core.Path.{◌≡◌}
use Rattle.mesh_balance_spec.specs.Grid.{upto}
use Rattle.weld.specs.Welding.{Welds}
use Rattle.solid_box.specs.Box.{face_of_box}
use lib.ListN.{length}
use Rattle.solid_box.proofs.faces.weld_faces.Given as goal

abbrev pub invariant-loop-f : goal.invariant-loop-f
invariant-loop-f l = Welds (upto l.f (face_of_box l.x)) l.initial.w l.w × (length l.numbers ≡ length l.initial.numbers)
