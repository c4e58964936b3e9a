-- `outline_ears::first_ear` meets its contract. Assumes nothing.
use Rattle.std.proofs.Common.{sym, ◌∙◌}
use Rattle.outline_ears.specs.Ears.{is_ear}
use Rattle.outline_ears.specs.Inside.{idx_of}
use Rattle.outline_ears.proofs.Laws.{find_here, find_on, find_end, first_ear_is}
use Rattle.outline_ears.proofs.first_ear.Goals as goal

pub loop-k-init : goal.loop-k-init
loop-k-init c = let w = c.args.left.now in first_ear_is c.args.v.now w.idx w.m c.requires.0 c.args.eps

pub returns-then-is_ear : goal.returns-then-is_ear
returns-then-is_ear c =
    let w = c.args.left.now in
    let l = c.loop-k in
    let p = is_ear c.args.v.now c.args.eps (idx_of w) in
    sym (find_here p w.m l.k c.loop-k-test.true (sym c.is_ear.ensures ∙ c.if-is_ear.true)) ∙ l.invariant

pub loop-k-preserved : goal.loop-k-preserved
loop-k-preserved c =
    let w = c.args.left.now in
    let l = c.loop-k in
    let p = is_ear c.args.v.now c.args.eps (idx_of w) in
    find_on p w.m l.k c.loop-k-test.true (sym c.is_ear.ensures ∙ c.if-is_ear.false) ∙ l.invariant

pub returns : goal.returns
returns c =
    let w = c.args.left.now in
    let l = c.loop-k in
    sym (find_end (is_ear c.args.v.now c.args.eps (idx_of w)) w.m l.k c.loop-k-test.false) ∙ l.invariant
