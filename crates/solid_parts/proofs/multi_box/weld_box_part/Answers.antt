-- `solid_parts::multi_box::weld_box_part` meets its contract. Assumes nothing.
use native.Mathlib.Omega.{arith}
use Rattle.solid_parts.proofs.PartRuns.{box_part}
use Rattle.solid_parts.proofs.multi_box.weld_box_part.Goals as goal

pub overflow_mul-i : goal.overflow_mul-i
overflow_mul-i c = omega (arith, c.requires.segments_bound.1)

pub vertex-a-requires : goal.vertex-a-requires
vertex-a-requires c = omega (arith, c.requires.segments_bound.1)

pub overflow_mul-i-2 : goal.overflow_mul-i-2
overflow_mul-i-2 c = omega (arith, c.requires.segments_bound.1)

pub overflow_add-i : goal.overflow_add-i
overflow_add-i c = omega (arith, c.requires.segments_bound.1)

pub vertex-b-requires : goal.vertex-b-requires
vertex-b-requires c = omega (arith, c.requires.segments_bound.1)

pub weld_box_shape-requires : goal.weld_box_shape-requires
weld_box_shape-requires c = record { ready = c.requires.ready; segments_bound = c.requires.segments_bound.0 }

pub returns : goal.returns
returns c =
    let a = c.args in
    let d = c in
    let w = d in
    box_part a.list.now a.i _ _ _ _ _ _ _ w.vertex-a.ensures w.vertex-b.ensures d.weld_box_shape.ensures c.new_part.ensures
