-- `outline_ears::first_flat` meets its contract. Assumes nothing.
use Rattle.std.proofs.Common.{sym, ◌∙◌}
use Rattle.outline_ears.specs.Kinds.{is_flat_of}
use Rattle.outline_ears.proofs.Laws.{find_here, find_on, find_end, first_flat_of_is, flat_at}
use Rattle.outline_ears.proofs.first_flat.Goals as goal

pub loop-j-init : goal.loop-j-init
loop-j-init c = first_flat_of_is _ _

pub returns-then-eq : goal.returns-then-eq
returns-then-eq c =
    let w = c.args.left.now in
    let l = c.loop-j in
    sym (find_here (is_flat_of w.kinds) w.m l.j c.loop-j-test.true (flat_at w.kinds l.j c.eq.ensures c.if-eq.true)) ∙ l.invariant

pub loop-j-preserved : goal.loop-j-preserved
loop-j-preserved c =
    let w = c.args.left.now in
    let l = c.loop-j in
    find_on (is_flat_of w.kinds) w.m l.j c.loop-j-test.true (flat_at w.kinds l.j c.eq.ensures c.if-eq.false) ∙ l.invariant

pub returns : goal.returns
returns c =
    let w = c.args.left.now in
    let l = c.loop-j in
    sym (find_end (is_flat_of w.kinds) w.m l.j c.loop-j-test.false) ∙ l.invariant
