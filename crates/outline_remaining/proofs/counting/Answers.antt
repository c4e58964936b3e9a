-- `outline_remaining::counting` meets its contract. Assumes nothing.
use Rattle.std.proofs.Common.{◌≡◌, ℕ, [], length-set, take, refl, sym, ap, ◌∙◌, arith}
use Rattle.outline_ears.specs.Ears.{counting}
use Rattle.outline_remaining.proofs.Counted.{counting_none, count_step}
use Rattle.outline_remaining.proofs.counting.Goals as goal

pub loop-i-init : goal.loop-i-init
loop-i-init c = (refl, counting_none [])

pub loop-i-preserved : goal.loop-i-preserved
loop-i-preserved c =
    let l = c.loop-i in
    (simp length-set l.invariant.0, count_step l.idx l.i (omega arith) l.invariant.1)

pub returns : goal.returns
returns c =
    let l = c.loop-i in
    let e : l.i ≡ c.args.n = omega arith in
    (refl, l.invariant.0, ap (λ (j : ℕ). take j l.idx) (sym e) ∙ l.invariant.1 ∙ ap (counting 0) e, refl)
