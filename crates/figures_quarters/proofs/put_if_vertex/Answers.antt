-- `figures_quarters::put_if_vertex` meets its contract. Assumes nothing.
use borrow.Author.Rules.{rules}
use Rattle.slice_text.specs.LineLaws.{then}
use Rattle.figures_quarters.proofs.Texts.{vertex_text, no_vertex_text}
use Rattle.figures_quarters.proofs.put_if_vertex.Goals as goal

pub returns-then-is_vertex : goal.returns-then-is_vertex
returns-then-is_vertex c =
    let p1 = c in
    let p2 = p1 in
    let p3 = p2 in
    vertex_text _ _ _ _ p3.is_vertex.ensures p3.if-is_vertex.true (then p2.put-to.ensures p1.put_point.ensures)

pub returns : goal.returns
returns c = no_vertex_text _ _ _ _ c.is_vertex.ensures c.if-is_vertex.false _
