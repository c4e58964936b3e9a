-- `solid_box::flat::weld_flat_box` meets its contract. Assumes nothing.
use native.Mathlib.Omega.{arith}
use Prim.Native.Nat.{◌<◌}
use Rattle.weld.specs.Welding.{welds_none}
use Rattle.solid_box.proofs.FaceRuns.{faces_more, box_runs}
use Rattle.solid_box.proofs.flat.weld_flat_box.Goals as goal

pub loop-f-init : goal.loop-f-init
loop-f-init c = welds_none _ c.requires

pub weld_face-requires : goal.weld_face-requires
weld_face-requires c = record { ready = c.loop-f.invariant.runs.ready; f_bound = omega arith }

pub loop-f-preserved : goal.loop-f-preserved
loop-f-preserved c = faces_more _ _ _ _ _ _ _ _ _ c.loop-f.invariant c.weld_face.ensures

pub returns : goal.returns
returns c = box_runs _ _ _ _ _ c.loop-f.f _ _ (omega arith) c.loop-f.invariant
