-- `figures_same::has_vertex` meets its contract: none of the vertices passed is the point. Assumes nothing.
use Rattle.std.proofs.Common.{arith}
use Rattle.figures_same.proofs.Searches.{none_passed, next_passed, found, all_passed}
use Rattle.figures_same.proofs.has_vertex.Goals as goal

pub loop-m-init : goal.loop-m-init
loop-m-init c = none_passed _ _

pub returns-then-is_at : goal.returns-then-is_at
returns-then-is_at c =
    let a = c.args in
    let l = c.loop-m in
    found a.v.now a.p a.count l.m c.is_at.ensures c.if-is_at.true (omega arith)

pub loop-m-preserved : goal.loop-m-preserved
loop-m-preserved c =
    let a = c.args in
    let l = c.loop-m in
    next_passed a.v.now a.p l.m c.is_at.ensures c.if-is_at.false l.invariant

pub returns : goal.returns
returns c =
    let a = c.args in
    let l = c.loop-m in
    all_passed a.v.now a.p a.count l.m (omega arith) l.invariant
