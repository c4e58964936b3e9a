-- `outline_clean::stay` meets its contract. Assumes nothing.
use Rattle.std.proofs.Common.{◌≡◌, ◌-◌, true, false, sym, ◌∙◌, arith, rules}
use Rattle.outline.specs.Corners.{same, point}
use Rattle.outline.specs.Clean.{stay}
use Rattle.outline.proofs.Laws.{stay_next, stay_stop, stay_end}
use Rattle.outline_clean.proofs.stay.Goals as goal

pub loop-k-preserved : goal.loop-k-preserved
unfolding same
loop-k-preserved c =
    let o = c.args.out.now in
    let l = c.loop-k in
    let h : same (point o 0) (point o (l.k - 1)) ≡ true = search rules in
    (omega arith, sym (stay_next o l.k c.loop-k-test.true h) ∙ l.invariant.1)

pub returns-else-eq : goal.returns-else-eq
unfolding same
returns-else-eq c =
    let o = c.args.out.now in
    let l = c.loop-k in
    let h : same (point o 0) (point o (l.k - 1)) ≡ false = search rules in
    (sym (stay_stop o l.k c.loop-k-test.true h) ∙ l.invariant.1, l.invariant.0)

pub returns-after-loop-k : goal.returns-after-loop-k
returns-after-loop-k c =
    let o = c.args.out.now in
    let l = c.loop-k in
    (sym (stay_end o l.k c.loop-k-test.false) ∙ l.invariant.1, l.invariant.0)
