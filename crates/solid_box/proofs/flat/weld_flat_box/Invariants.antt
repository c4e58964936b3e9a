-- `solid_box::flat::weld_flat_box` meets its contract. Assumes nothing.
use mathlib.Core.Bool.{false}
use Rattle.mesh_balance_spec.specs.Grid.{upto}
use Rattle.weld.specs.Welding.{Welds}
use Rattle.surface_spec.specs.Faces.{three}
use Rattle.surface_spec.specs.Surface.{mapped}
use Rattle.solid_box.specs.Box.{face_of}
use Rattle.surface_spec.specs.declared.Chart.TheVariants.{Cartesian}
use Rattle.solid_box.proofs.flat.weld_flat_box.Given as goal

abbrev pub invariant-loop-f : goal.invariant-loop-f
invariant-loop-f l = Welds (upto l.f (face_of l.lo l.hi (three 1 1 1) (three false false false) (mapped Cartesian))) l.initial.w l.w
