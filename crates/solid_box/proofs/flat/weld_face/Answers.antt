-- `solid_box::flat::weld_face` meets its contract. Assumes nothing.
use Rattle.std.proofs.Common.{ap, not}
use native.Mathlib.Omega.{arith}
use Rattle.weld.specs.Welding.{welds_as}
use Rattle.solid_grid.proofs.Cells.{cell_welds}
use Rattle.solid_box.proofs.FaceRuns.{face_gone, face_there}
use Rattle.solid_box.proofs.FlatRuns.{base_small}
use Rattle.solid_box.proofs.flat.weld_face.Goals as goal

pub face-p-requires : goal.face-p-requires
face-p-requires c = omega (arith, c.requires.f_bound)

pub guesses-n-requires : goal.guesses-n-requires
guesses-n-requires c = (base_small _ _ _ c.requires.ready.linked, c.requires.f_bound)

pub weld_quad-requires : goal.weld_quad-requires
weld_quad-requires c = c.requires.ready

pub returns-then-has_face : goal.returns-then-has_face
returns-then-has_face c = face_there _ _ _ _ _ _ _ _ _ (ap not c.if-has_face.true) c.has_face.ensures (welds_as c.face-p.ensures (cell_welds c.weld_quad.ensures))

pub returns-else-has_face : goal.returns-else-has_face
returns-else-has_face c = face_gone _ _ _ _ _ _ _ _ c.requires.ready (ap not c.if-has_face.false) c.has_face.ensures
