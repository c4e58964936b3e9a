-- `figures_same::numbers` meets its contract: what is left to compare decides. Assumes nothing.
use mathlib.Core.Path.{refl}
use borrow.Author.Tests.{eq-eqb, ne_eqb}
use lib.Dec.{eqb}
use lib.ListN.{get_or}
use native.Mathlib.Omega.{arith}
use Rattle.figures_same.proofs.Fronts.{begins_short, begins_end, begins_differs, begins_same}
use Rattle.figures_same.proofs.numbers.Goals as goal

pub returns-then-t-front : goal.returns-then-t-front
returns-then-t-front c = let a = c.args in begins_short eqb a.t.now a.front.now (omega arith)

pub loop-k-init : goal.loop-k-init
loop-k-init c = (omega arith, refl)

pub returns-then-t-k : goal.returns-then-t-k
returns-then-t-k c =
    let a = c.args in
    let l = c.loop-k in
    let e = ne_eqb (get_or a.t.now l.k 0) (get_or a.front.now l.k 0) (λ q. omega arith) in
    begins_differs eqb a.t.now a.front.now l.k 0 l.invariant.0 (omega arith) e l.invariant.1

pub loop-k-preserved : goal.loop-k-preserved
loop-k-preserved c =
    let a = c.args in
    let l = c.loop-k in
    let e = eq-eqb (get_or a.t.now l.k 0) (get_or a.front.now l.k 0) (omega arith) in
    (l.invariant.0, begins_same eqb a.t.now a.front.now l.k 0 l.invariant.0 (omega arith) e l.invariant.1)

pub returns : goal.returns
returns c =
    let a = c.args in
    let l = c.loop-k in
    begins_end eqb a.t.now a.front.now l.k (omega arith) l.invariant.1
