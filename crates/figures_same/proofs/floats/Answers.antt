-- `figures_same::floats` meets its contract: what is left to compare decides. Assumes nothing.
use mathlib.Core.Path.{refl}
use Rattle.std.proofs.lemmas.Bool.{not-true, not-false}
use lib.Ieee.{eq, ne, nan}
use native.Mathlib.Omega.{arith}
use Rattle.figures_same.proofs.Fronts.{begins_short, begins_end, begins_differs, begins_same}
use Rattle.figures_same.proofs.floats.Goals as goal

pub returns-then-v-front : goal.returns-then-v-front
returns-then-v-front c = let a = c.args in begins_short eq a.v.now a.front.now (omega arith)

pub loop-i-init : goal.loop-i-init
loop-i-init c = (omega arith, refl)

pub returns-then-v-i : goal.returns-then-v-i
unfolding ne
returns-then-v-i c =
    let a = c.args in
    let l = c.loop-i in
    begins_differs eq a.v.now a.front.now l.i nan l.invariant.0 (omega arith) (not-true _ c.if-v-i.true) l.invariant.1

pub loop-i-preserved : goal.loop-i-preserved
unfolding ne
loop-i-preserved c =
    let a = c.args in
    let l = c.loop-i in
    (l.invariant.0, begins_same eq a.v.now a.front.now l.i nan l.invariant.0 (omega arith) (not-false _ c.if-v-i.false) l.invariant.1)

pub returns : goal.returns
returns c =
    let a = c.args in
    let l = c.loop-i in
    begins_end eq a.v.now a.front.now l.i (omega arith) l.invariant.1
