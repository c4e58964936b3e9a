-- `figures_quarters::put_none` meets its contract. Assumes nothing.
use borrow.Author.Rules.{rules}
use Rattle.figures_quarters.proofs.Texts.{some_text, none_text}
use Rattle.figures_quarters.proofs.put_none.Goals as goal

pub returns-then-on_x-on_y : goal.returns-then-on_x-on_y
returns-then-on_x-on_y c =
    let p1 = c in
    let p2 = p1 in
    let p3 = p2 in
    let p4 = p3 in
    some_text _ _ p4.is_vertex.ensures p3.is_vertex-2.ensures p2.is_vertex-3.ensures p1.is_vertex-4.ensures c.if-on_x-on_y.true _

pub returns : goal.returns
returns c =
    let q = c in
    let d = q in
    let p1 = d in
    let p2 = p1 in
    let p3 = p2 in
    let p4 = p3 in
    none_text _ _ p4.is_vertex.ensures p3.is_vertex-2.ensures p2.is_vertex-3.ensures p1.is_vertex-4.ensures d.if-on_x-on_y.false q.put.ensures
