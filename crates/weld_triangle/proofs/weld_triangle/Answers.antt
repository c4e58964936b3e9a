-- `weld_triangle::weld_triangle` meets its contract: a case of proofs/Triangle.antt for each return. Assumes nothing.
use borrow.Author.Rules.{rules}
use mathlib.Core.Path.{refl, sym, ◌∙◌}
use mathlib.Core.Logic.{inl, inr}
use Rattle.weld.specs.Welding.{welds_stopped}
use Rattle.weld_triangle.proofs.Triangle.{triangle_stops, triangle_runs}
use Rattle.weld_triangle.proofs.weld_triangle.Goals as goal
use Rattle.weld_triangle.proofs.weld_triangle.Goals.{else-is_finite-via-then-is_finite+then-is_finite-2+else-is_finite-3, else-is_finite-via-then-is_finite+else-is_finite-2, else-is_finite-via-else-is_finite}

pub returns-then-not-w : goal.returns-then-not-w
returns-then-not-w c = let s = c in welds_stopped _ s.args.w.now s.requires c.if-not-w.true

pub returns-then-is_finite-3 : goal.returns-then-is_finite-3
returns-then-is_finite-3 c =
    let s = c in
    record {
      same = c.weld_points.ensures.same;
      runs =
          triangle_runs s.args.a s.args.b s.args.c _ _ _ _ _
          (sym c.is_finite.ensures ∙ c.if-is_finite.true)
          (sym c.is_finite-then-is_finite.ensures ∙ c.if-is_finite-2.true)
          (sym c.is_finite-then-is_finite-2.ensures ∙ c.if-is_finite-3.true)
          c.plus_zero.ensures.0 c.plus_zero-then-is_finite-3.ensures.0 c.plus_zero-then-is_finite-3-2.ensures.0 c.weld_points.ensures.runs;
    }

pub returns-else-is_finite : goal.returns-else-is_finite
returns-else-is_finite c =
    let s = c in
    let w = s.args.w.now in
    record {
      same = record { vertices = refl; triangles = refl; work = refl };
      runs = rw c.stop.ensures (triangle_stops w.st w.vertices.now w.triangles.now w.work.now s.args.a s.args.b s.args.c s.requires
          (elim c.else-is_finite.branch [
            | else-is_finite-via-then-is_finite+then-is_finite-2+else-is_finite-3 t ↦ inr (inr (sym t.is_finite-then-is_finite-2.ensures ∙ t.if-is_finite-3.false))
            | else-is_finite-via-then-is_finite+else-is_finite-2 t ↦ inr (inl (sym t.is_finite-then-is_finite.ensures ∙ t.if-is_finite-2.false))
            | else-is_finite-via-else-is_finite t ↦ inl (sym c.is_finite.ensures ∙ t.if-is_finite.false)
          ]));
    }
