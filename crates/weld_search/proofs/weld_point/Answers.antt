-- `weld_search::weld_point` meets its contract: a guess that fits is the number that the look-up would give. Assumes nothing.
use borrow.Author.Rules.{rules}
use mathlib.Core.Path.{sym, ◌∙◌}
use Rattle.weld_vertex.proofs.At.{at_yes}
use Rattle.weld_hash.proofs.Chains.{first_at}
use Rattle.weld_search.proofs.Point.{point_shut, point_at, point_stays}
use Rattle.weld_search.proofs.weld_point.Goals as goal

pub returns-then-not-w : goal.returns-then-not-w
returns-then-not-w c =
    let s = c in
    let w = s.args.w.now in
    point_stays w s.args.p 0 (point_shut w.st w.vertices.now w.work.now s.requires.0 s.args.p c.if-not-w.true)

pub returns-then-is_right : goal.returns-then-is_right
returns-then-is_right c =
    let s = c in
    let w = s.args.w.now in
    let e = at_yes w.vertices.now w.st.base w.st.count s.args.p s.args.guess (sym c.is_right.ensures ∙ c.if-is_right.true) in
    point_stays w s.args.p s.args.guess
    (point_at w.st w.vertices.now w.work.now s.requires.0 s.args.p s.args.guess c.if-not-w.false
    (first_at w.vertices.now w.st.places w.st.base w.st.count s.requires.0.distinct s.args.p s.requires.1 s.args.guess e.0 e.1 e.2))
