-- `solid_box::faces::weld_face` meets its contract. Assumes nothing.
use Rattle.std.proofs.Common.{ap, not}
use Rattle.solid_box.proofs.FaceRuns.{face_asks, face_runs, face_gone, face_there}
use native.Mathlib.Omega.{arith}
use Prim.Native.Nat.{◌/◌}
use lib.ListN.{length}
use Rattle.surface_box.specs.Faces.{is_high}
use Rattle.solid_box.proofs.faces.weld_face.Goals as goal

pub returns-then-not-has_face : goal.returns-then-not-has_face
returns-then-not-has_face c = face_gone _ _ _ _ _ _ _ _ c.requires.ready (ap not c.if-not-has_face.true) c.has_face.ensures

pub weld_grid-requires : goal.weld_grid-requires
weld_grid-requires c =
    let x = c.args in
    record {
      ready = c.requires.ready;
      nu_bound =
          face_asks x.x.now (x.f / 2) c.end_of-val.result c.line_of-u.result c.line_of-v.result x.table.now (length x.numbers.now)
          (omega (arith, c.requires.f_bound.0)) c.requires.f_bound.1 c.line_of-u.ensures c.line_of-v.ensures;
    }

pub returns : goal.returns
returns c =
    let x = c.args in
    face_there _ _ _ _ _ x.f _ _ _ (ap not c.if-not-has_face.false) c.has_face.ensures
    (face_runs x.x.now _ (x.f / 2) (is_high x.f) _ _ _ _ _ c.line_of-u.ensures c.line_of-v.ensures c.end_of-val.ensures c.weld_grid.ensures)
