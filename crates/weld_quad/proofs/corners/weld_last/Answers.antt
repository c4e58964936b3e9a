-- `weld_quad::corners::weld_last` meets its contract: one look-up at most, then two triangles. Assumes nothing.
use borrow.Author.Rules.{rules}
use mathlib.Core.Path.{refl, sym, ◌∙◌}
use Rattle.weld.specs.Welding.{same_then}
use Rattle.weld_triangle.proofs.Triangle.{faces_after}
use Rattle.weld_quad.proofs.Quads.{last_runs, last_stops}
use Rattle.weld_quad.proofs.corners.weld_last.Goals as goal

pub returns-then-not-is_finite : goal.returns-then-not-is_finite
returns-then-not-is_finite c =
    let s = c in
    let w = s.args.w.now in
    record {
      same = record { vertices = refl; triangles = refl; work = refl };
      last = rw c.stop.ensures (last_stops w.st w.vertices.now w.triangles.now w.work.now s.requires.ready s.args.c s.args.n.a s.args.n.b s.args.n.d 0
          (sym c.is_finite.ensures ∙ c.if-not-is_finite.true));
    }

pub plus_zero-requires : goal.plus_zero-requires
plus_zero-requires c = sym c.is_finite.ensures ∙ c.if-not-is_finite.false

pub weld_point-nc-requires : goal.weld_point-nc-requires
weld_point-nc-requires c = (c.requires.ready.linked, c.plus_zero.ensures.1)

pub add_triangle-requires : goal.add_triangle-requires
add_triangle-requires c =
    let p = c.requires.finite_value in
    let t = c.weld_point-nc.ensures in
    (faces_after t c.requires.ready.faces, p.2, p.3, t.runs.small)

pub add_triangle-requires-2 : goal.add_triangle-requires-2
add_triangle-requires-2 c =
    let p = c.requires.finite_value in
    (c.add_triangle.ensures.runs.faces, p.2, c.weld_point-nc.ensures.runs.small, p.4)

pub returns : goal.returns
returns c =
    let s = c in
    let n = s.args.n in
    let p = s.requires.finite_value in
    let t = c.weld_point-nc.ensures in
    let u = c.add_triangle.ensures in
    let v = c.add_triangle-2.ensures in
    record {
      same = same_then t.slices.same (same_then u.same v.same);
      last = last_runs s.args.c c.plus_zero.result n.a n.b n.d s.requires.ready p.0 p.1 (sym c.is_finite.ensures ∙ c.if-not-is_finite.false) c.plus_zero.ensures.0
          t u v p.2 p.3 p.4;
    }
