-- `shape_angles::points_within` meets its contract. The loop passes points whose angles are within 1,000: the rest decides. Assumes nothing.
use borrow.Author.Rules.{rules}
use mathlib.Core.Path.{sym, ap, ◌∙◌}
use mathlib.Core.Bool.{not}
use native.Mathlib.Omega.{arith}
use Rattle.shape_angles.proofs.Loops.{no_point, points_next, points_stop}
use Rattle.shape_angles.proofs.points_within.Goals as goal

pub returns-then-not-within_1000 : goal.returns-then-not-within_1000
returns-then-not-within_1000 c =
    let step = c.in-Some.ensures.steps in
    let at = c.loop-point.invariant in
    points_stop c.args.list.now _ _ _ _ step.1.0 (step.1.1 ∙ at.size) c.within_1000.ensures (ap not c.if-not-within_1000.true) at.rest

pub loop-point-preserved : goal.loop-point-preserved
loop-point-preserved c =
    let step = c.in-Some.ensures.steps in
    let at = c.loop-point.invariant in
    record {
      size = step.0 ∙ at.size;
      rest = points_next c.args.list.now _ _ _ _ step.1.0 (step.1.1 ∙ at.size) c.within_1000.ensures (ap not c.if-not-within_1000.false) at.rest;
    }

pub returns : goal.returns
returns c =
    let step = c.in-None.ensures.steps in
    let at = c.loop-point.invariant in
    no_point _ (omega (arith, step.1.0, at.size)) ∙ sym at.rest
