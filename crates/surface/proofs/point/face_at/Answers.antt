-- `surface::point::face_at` meets its contract. Assumes nothing.
use mathlib.Core.Path.{◌∙◌}
use Rattle.surface_spec.specs.Faces.{face_point}
use Rattle.surface.proofs.Surfaces.{face_plain, face_cylindrical, face_around, chart_tabled}
use borrow.Author.Rules.{rules}
use Rattle.surface.proofs.point.face_at.Goals as goal

pub polar_at-p-requires : goal.polar_at-p-requires
polar_at-p-requires c =
    let s = c in
    let a = s.args in
    record { face_within = s.requires.face_within; round_tabled = chart_tabled a.chart a.k a.val a.u a.v a.i a.j _ a.rows.now a.cols.now c.in-Cylindrical.is s.requires.tabled }

pub polar_at-p-requires-in-Around : goal.polar_at-p-requires-in-Around
polar_at-p-requires-in-Around c =
    let s = c in
    let a = s.args in
    record { face_within = s.requires.face_within; round_tabled = chart_tabled a.chart a.k a.val a.u a.v a.i a.j _ a.rows.now a.cols.now c.in-Around.is s.requires.tabled }

pub returns-in-Cartesian : goal.returns-in-Cartesian
returns-in-Cartesian c =
    let s = c.args in
    face_plain _ _ _ _ _ _ _ _ c.in-Cartesian.is
    (c.face_point.ensures ∙ (λ i. face_point s.k s.val (c.line_at.ensures i) (c.line_at-in-Cartesian.ensures i)))

pub returns-in-Cylindrical : goal.returns-in-Cylindrical
returns-in-Cylindrical c = face_cylindrical _ _ _ _ _ _ _ _ _ c.in-Cylindrical.is c.polar_at-p.ensures c.cylindrical_by.ensures

pub returns-in-Around : goal.returns-in-Around
returns-in-Around c = face_around _ _ _ _ _ _ _ _ _ _ _ _ _ c.in-Around.is c.polar_at-p-in-Around.ensures c.around_axis_by.ensures
