-- `figures_quarters::put_quarters` meets its contract. Assumes nothing.
use borrow.Author.Rules.{rules}
use Rattle.figures_quarters.proofs.Texts.{quarters_text}
use Rattle.figures_quarters.proofs.put_quarters.Goals as goal

pub returns : goal.returns
returns c =
    let p1 = c in
    let p2 = p1 in
    let p3 = p2 in
    let p4 = p3 in
    let p5 = p4 in
    let p6 = p5 in
    let p7 = p6 in
    let a = p7.args in
    quarters_text a.v.now a.count p7.put-to.ensures p6.put_if_vertex-to.ensures p5.put_if_vertex-to-2.ensures p4.put_if_vertex-to-3.ensures
    p3.put_if_vertex-to-4.ensures p2.put_none-to.ensures p1.put.ensures
