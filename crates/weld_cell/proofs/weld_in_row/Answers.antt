-- `weld_cell::weld_in_row` meets its contract: where a, b and d are known, only c is looked up. Assumes nothing.
use borrow.Author.Rules.{rules}
use mathlib.Core.Path.{sym, ◌∙◌}
use Rattle.weld.specs.Welding.{same_then, held_by}
use Rattle.weld_triangle.proofs.Triangle.{faces_after}
use Rattle.weld_quad.proofs.Quads.{last_runs}
use Rattle.weld_cell.proofs.Turned.{row_small, cell_last}
use Rattle.weld_cell.proofs.weld_in_row.Goals as goal

pub plus_zero-requires : goal.plus_zero-requires
plus_zero-requires c = sym c.is_finite.ensures ∙ c.if-is_finite.true

pub add_triangle-requires : goal.add_triangle-requires
add_triangle-requires c =
    let s = c in
    let p = s.args.p in
    let n = s.args.n in
    let w = s.args.w.now in
    let k = s.requires.known c.if-known.true in
    let l = c.is_vertex.ensures.1 c.if-is_vertex.true in
    let m = row_small s.args.flip w.st w.vertices.now w.work.now p.a p.b p.d n.a n.b n.d _ _ s.requires.ready.linked c.if-w.true c.if-w-2.true k.0 k.1 l
    c.pick-second.ensures c.pick-fourth.ensures in
    let t = c.weld_point-c.ensures in
    (faces_after t s.requires.ready.faces, m.0, m.1, t.runs.small)

pub add_triangle-requires-then-is_finite : goal.add_triangle-requires-then-is_finite
add_triangle-requires-then-is_finite c =
    let s = c in
    let p = s.args.p in
    let n = s.args.n in
    let w = s.args.w.now in
    let k = s.requires.known c.if-known.true in
    let l = c.is_vertex.ensures.1 c.if-is_vertex.true in
    let m = row_small s.args.flip w.st w.vertices.now w.work.now p.a p.b p.d n.a n.b n.d _ _ s.requires.ready.linked c.if-w.true c.if-w-2.true k.0 k.1 l
    c.pick-second.ensures c.pick-fourth.ensures in
    (c.add_triangle.ensures.runs.faces, m.0, c.weld_point-c.ensures.runs.small, m.2)

pub returns-then-is_finite : goal.returns-then-is_finite
returns-then-is_finite c =
    let s = c in
    let p = s.args.p in
    let n = s.args.n in
    let w = s.args.w.now in
    let f = c.if-w.true in
    let r = c.if-w-2.true in
    let k = s.requires.known c.if-known.true in
    let l = c.is_vertex.ensures.1 c.if-is_vertex.true in
    let y = c.pick-second in
    let z = c.pick-fourth in
    let m = row_small s.args.flip w.st w.vertices.now w.work.now p.a p.b p.d n.a n.b n.d y.result z.result s.requires.ready.linked f r k.0 k.1 l y.ensures z.ensures in
    let t = c.weld_point-c in
    let u = c.add_triangle.ensures in
    let v = c.add_triangle-then-is_finite.ensures in
    record {
      same = same_then t.ensures.slices.same (same_then u.same v.same);
      numbered = cell_last s.args.flip p n y.result z.result t.result (held_by w) _ y.ensures z.ensures
          (last_runs p.c c.plus_zero.result n.a y.result z.result s.requires.ready f r (sym c.is_finite.ensures ∙ c.if-is_finite.true) c.plus_zero.ensures.0
          t.ensures u v m.0 m.1 m.2)
          k.0 k.1 l;
    }
