-- `solid_box::faces::weld_faces` meets its contract. Assumes nothing.
use native.Mathlib.Omega.{arith}
use mathlib.Core.Path.{refl, ◌∙◌}
use Prim.Native.Nat.{◌<◌}
use Rattle.weld.specs.Welding.{welds_none}
use Rattle.solid_box.proofs.FaceRuns.{faces_more, box_runs, guesses_kept}
use Rattle.solid_box.proofs.faces.weld_faces.Goals as goal

pub loop-f-init : goal.loop-f-init
loop-f-init c = (welds_none _ c.requires.ready, refl)

pub weld_face-requires : goal.weld_face-requires
weld_face-requires c = record { ready = c.loop-f.invariant.0.runs.ready; f_bound = (omega arith, guesses_kept c.loop-f.invariant.1 c.requires.box_within) }

pub loop-f-preserved : goal.loop-f-preserved
loop-f-preserved c = (faces_more _ _ _ _ _ _ _ _ _ c.loop-f.invariant.0 c.weld_face.ensures, c.weld_face.auto.numbers ∙ c.loop-f.invariant.1)

pub returns : goal.returns
returns c = box_runs _ _ _ _ _ c.loop-f.f _ _ (omega arith) c.loop-f.invariant.0
