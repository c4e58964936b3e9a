-- `outline_ears::blocked` meets its contract. Assumes nothing.
use Rattle.std.proofs.Common.{sym, ◌∙◌, arith}
use Rattle.outline_ears.proofs.Laws.{any_here, any_on, any_none, blocked_is}
use Rattle.outline_ears.proofs.blocked.Goals as goal

pub loop-q-init : goal.loop-q-init
loop-q-init c = blocked_is _ _ _ _

pub returns-then-blocks : goal.returns-then-blocks
returns-then-blocks c =
    let w = c.args.left.now in
    let l = c.loop-q in
    any_here c.args.v.now w.idx w.m c.requires _ l.q c.loop-q-test.true (sym c.blocks-in-loop-q.ensures ∙ c.if-blocks.true)
    ∙ l.invariant

pub loop-q-preserved : goal.loop-q-preserved
loop-q-preserved c =
    let w = c.args.left.now in
    let l = c.loop-q in
    any_on c.args.v.now w.idx w.m c.requires _ l.q c.loop-q-test.true (sym c.blocks-in-loop-q.ensures ∙ c.if-blocks.false) ∙ l.invariant

pub returns : goal.returns
returns c =
    let w = c.args.left.now in
    let l = c.loop-q in
    sym (any_none c.args.v.now w.idx w.m c.requires _ l.q c.loop-q-test.false) ∙ l.invariant
