-- `solid::outlines::weld_outline` meets its contract. Assumes nothing.
use borrow.Enum.Refused.{opened}
use borrow.Author.Rules.{rules}
use native.Mathlib.Omega.{arith}
use Rattle.solid.proofs.ShapeRuns.{polygon_soup_lem, lin_soup, outline_as, outline_none, listed_as}
use Rattle.solid.proofs.outlines.weld_outline.Goals as goal

pub weld_extruded-requires : goal.weld_extruded-requires
weld_extruded-requires c = record { ready = c.requires.ready; n_bound = (omega (arith, c.direction.ensures.1), listed_as _ _ _ c.in-Polygon.is c.requires.segments_bound.1) }

pub weld_extruded-requires-in-LinPoly : goal.weld_extruded-requires-in-LinPoly
weld_extruded-requires-in-LinPoly c = record { ready = c.requires.ready; n_bound = (omega (arith, c.direction-in-LinPoly.ensures.1), listed_as _ _ _ c.in-LinPoly.is c.requires.segments_bound.1) }

pub weld_rot_poly-requires : goal.weld_rot_poly-requires
weld_rot_poly-requires c = record { ready = c.requires.ready; segments_bound = (c.requires.segments_bound.0, listed_as _ _ _ c.in-RotPoly.is c.requires.segments_bound.1) }

pub returns-in-Polygon : goal.returns-in-Polygon
returns-in-Polygon c = outline_as _ _ _ _ _ _ c.in-Polygon.is (polygon_soup_lem _ _ _ _ _ _ c.direction.ensures.0 c.weld_extruded.ensures)

pub returns-in-LinPoly : goal.returns-in-LinPoly
returns-in-LinPoly c = outline_as _ _ _ _ _ _ c.in-LinPoly.is (lin_soup _ _ _ _ _ _ _ _ _ c.direction-in-LinPoly.ensures.0 c.min.ensures c.max.ensures c.weld_extruded-in-LinPoly.ensures)

pub returns-in-RotPoly : goal.returns-in-RotPoly
returns-in-RotPoly c = outline_as _ _ _ _ _ _ c.in-RotPoly.is c.weld_rot_poly.ensures

pub returns-in_default : goal.returns-in_default
returns-in_default c = outline_none c.args.shape _ _ _ c.requires.ready (opened c.in_default.in_default-own.keys4)
