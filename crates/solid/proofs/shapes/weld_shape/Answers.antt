-- `solid::shapes::weld_shape` meets its contract. Assumes nothing.
use borrow.Author.Rules.{rules}
use Rattle.solid_spec.specs.Solid.{parts_of}
use Rattle.solid.proofs.ShapeRuns.{shape_as, solid_part, tube_part, outline_part}
use Rattle.solid.proofs.shapes.weld_shape.Goals as goal

pub weld_multi_box-requires : goal.weld_multi_box-requires
weld_multi_box-requires c = record { ready = c.requires.ready; segments_bound = c.requires.few_segments.0.segments }

pub weld_wire-requires : goal.weld_wire-requires
weld_wire-requires c = record { ready = c.requires.ready; segments_bound = (c.requires.few_segments.0.segments, c.requires.few_segments.0.rings) }

pub weld_outline-requires : goal.weld_outline-requires
weld_outline-requires c = record { ready = c.requires.ready; segments_bound = (c.requires.few_segments.0.segments, c.requires.few_segments.1) }

pub weld_tube-requires : goal.weld_tube-requires
weld_tube-requires c = record { ready = c.requires.ready; segments_bound = c.requires.few_segments.0.segments }

pub weld_solid-requires : goal.weld_solid-requires
weld_solid-requires c = record { ready = c.requires.ready; few_segments = c.requires.few_segments.0 }

pub returns-in-MultiBox : goal.returns-in-MultiBox
unfolding parts_of
returns-in-MultiBox c = shape_as _ _ _ _ _ _ _ c.in-MultiBox.is c.weld_multi_box.ensures

pub returns-in-Wire : goal.returns-in-Wire
unfolding parts_of
returns-in-Wire c = shape_as _ _ _ _ _ _ _ c.in-Wire.is c.weld_wire.ensures

pub returns-in-Polygon : goal.returns-in-Polygon
returns-in-Polygon c = outline_part c.args.shape _ _ c.args.options _ _ _ c.in-Polygon.in-Polygon-own.keys3 c.weld_outline.ensures c.new_part.ensures

pub returns-in-Cylinder : goal.returns-in-Cylinder
returns-in-Cylinder c = tube_part c.args.shape _ _ c.args.options _ _ _ c.in-Cylinder.in-Cylinder-own.keys4 c.weld_tube.ensures c.new_part-in-Cylinder.ensures

pub returns-in_default : goal.returns-in_default
returns-in_default c = solid_part c.args.shape _ _ c.args.options _ _ _ c.in_default.in_default-own.keys5 c.weld_solid.ensures c.new_part-in_default.ensures
