-- `weld_search::search::search` meets its contract. Assumes nothing.
use borrow.Author.Rules.{rules}
use mathlib.Core.Path.{◌≡◌, sym, subst}
use lib.Ieee.{Float}
use mathlib.Core.List.{List}
use Rattle.weld.specs.declared.Welder.{Welder}
use Rattle.weld_search.specs.Search.{PointRuns}
use Rattle.weld_search.proofs.Point.{point_settled, slices_then}
use Rattle.weld_search.proofs.search.search.Goals as goal

pub returns : goal.returns
returns c =
    let s = c in
    let w = s.args.w.now in
    let t = c.settle.ensures in
    let m = c.settle.new.w in
    let f = c.find in
    let r = f.new.w in
    record {
      slices = slices_then t.slices f.ensures.slices;
      runs =
          point_settled w.st w.vertices.now w.work.now m.work.now s.args.p f.result r.st r.vertices.now r.work.now
          (subst (λ (x : Welder). PointRuns s.args.p x w.vertices.now m.work.now f.result r.st r.vertices.now r.work.now) t.answer
          (subst (λ (l : List Float). PointRuns s.args.p m.st l m.work.now f.result r.st r.vertices.now r.work.now) t.vertices f.ensures.runs));
    }
