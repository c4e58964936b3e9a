-- `outline_triangulate::passes::pass` meets its contract. Assumes nothing.
use Rattle.std.proofs.Common.{◌∙◌, arith}
use Rattle.outline_ears.proofs.Laws.{first_flat_by}
use Rattle.outline_triangulate.proofs.Steps.{ear_below, flat_below, clip_passing, drop_passing, fan_passing}
use Rattle.outline_triangulate.proofs.passes.pass.Goals as goal

pub triangle_at-ear-requires : goal.triangle_at-ear-requires
triangle_at-ear-requires c =
    let w = c.args.left.now in
    (ear_below c.args.v.now c.args.eps w.idx w.m c.requires.1 _ c.first_ear.ensures c.in-Some.is, c.requires.1)

pub remove-requires : goal.remove-requires
remove-requires c =
    let w = c.args.left.now in
    (omega arith, ear_below c.args.v.now c.args.eps w.idx w.m c.requires.1 _ c.first_ear.ensures c.in-Some.is, c.requires.1, c.requires.2)

pub returns-in-Some : goal.returns-in-Some
returns-in-Some c =
    let a = c.args in
    clip_passing a.v.now a.eps a.left.now a.cut a.out.now c.requires.0 c.requires.1 c.requires.3 c.first_ear.ensures
    _ _ _ _ c.in-Some.is c.triangle_at-ear.ensures c.put.auto.out c.put.ensures c.remove.ensures

pub remove-requires-in-Some-first_flat : goal.remove-requires-in-Some-first_flat
remove-requires-in-Some-first_flat c =
    let a = c.args in
    let w = a.left.now in
    let flat = c.first_flat.ensures ∙ first_flat_by a.v.now a.eps w.idx w.kinds w.m c.requires.1 c.requires.2 in
    (omega arith, flat_below a.v.now a.eps w.idx w.m c.requires.1 _ flat c.in-Some-first_flat.is, c.requires.1, c.requires.2)

pub returns-in-Some-first_flat : goal.returns-in-Some-first_flat
returns-in-Some-first_flat c =
    let a = c.args in
    let w = a.left.now in
    let flat = c.first_flat.ensures ∙ first_flat_by a.v.now a.eps w.idx w.kinds w.m c.requires.1 c.requires.2 in
    drop_passing a.v.now a.eps w a.cut a.out.now c.requires.0 c.requires.1 c.requires.3 c.first_ear.ensures
    _ _ c.in_default.is flat c.in-Some-first_flat.is c.remove-in-Some-first_flat.ensures

pub returns : goal.returns
returns c =
    let a = c.args in
    let w = a.left.now in
    let flat = c.first_flat.ensures ∙ first_flat_by a.v.now a.eps w.idx w.kinds w.m c.requires.1 c.requires.2 in
    fan_passing a.v.now a.eps w a.cut a.out.now c.requires.0 c.requires.1 c.requires.3 c.first_ear.ensures
    _ _ c.in_default.is flat c.in_default-first_flat.is c.fan-triangles.auto.out c.requires.2 c.fan-triangles.ensures
