-- `surface::point::surface_point` meets its contract. Assumes nothing.
use Rattle.surface.proofs.Surfaces.{within_as, tabled_as, point_as, on_face_lem, on_sphere_lem, on_extruded_lem, on_rotated_lem}
use mathlib.Core.Path.{refl, ◌∙◌}
use borrow.Author.Rules.{rules}
use Rattle.surface.proofs.point.surface_point.Goals as goal

pub face_at-requires : goal.face_at-requires
face_at-requires c = record { face_within = within_as _ _ _ _ _ c.in-Face.is c.requires.within; tabled = tabled_as _ _ _ _ _ _ c.in-Face.is c.requires.tabled }

pub bounds-rows-i : goal.bounds-rows-i
bounds-rows-i c = (tabled_as _ _ _ _ _ _ c.in-Sphere.is c.requires.tabled).0.long

pub bounds-cols-j : goal.bounds-cols-j
bounds-cols-j c = (tabled_as _ _ _ _ _ _ c.in-Sphere.is c.requires.tabled).1.long

pub extruded_at-requires : goal.extruded_at-requires
extruded_at-requires c = within_as _ _ _ _ _ c.in-Extruded.is c.requires.within

pub bounds-cols-j-in-Rotated : goal.bounds-cols-j-in-Rotated
bounds-cols-j-in-Rotated c = (tabled_as _ _ _ _ _ _ c.in-Rotated.is c.requires.tabled).long

pub rotated_at-requires : goal.rotated_at-requires
rotated_at-requires c = let w = within_as _ _ _ _ _ c.in-Rotated.is c.requires.within in record { len_positive = w.some; corners_held = w.held }

pub returns-in-Face : goal.returns-in-Face
returns-in-Face c = point_as _ _ _ _ _ _ c.in-Face.is (c.face_at.ensures ∙ on_face_lem _ _ _ _ _ _ _ _)

pub returns-in-Sphere : goal.returns-in-Sphere
returns-in-Sphere c = let e = c.in-Sphere.is in point_as _ _ _ _ _ _ e (on_sphere_lem _ _ _ _ _ _ _ _ _ _ _ _ (tabled_as _ _ _ _ _ _ e c.requires.tabled) refl refl c.on_sphere.ensures)

pub returns-in-Extruded : goal.returns-in-Extruded
returns-in-Extruded c = point_as _ _ _ _ _ _ c.in-Extruded.is (c.extruded_at.ensures ∙ on_extruded_lem _ _ _ _ _ _ _)

pub returns-in-Rotated : goal.returns-in-Rotated
returns-in-Rotated c = let e = c.in-Rotated.is in point_as _ _ _ _ _ _ e (on_rotated_lem _ _ _ _ _ _ _ _ _ _ _ _ _ (tabled_as _ _ _ _ _ _ e c.requires.tabled) refl c.rotated_at.ensures)
