-- `outline_ears::kind_of` meets its contract. Assumes nothing.
use Rattle.outline_ears.proofs.Laws.{kind_flat, kind_neither, kind_ear}
use Rattle.outline_ears.proofs.kind_of.Goals as goal

pub returns-then-abs-eps : goal.returns-then-abs-eps
returns-then-abs-eps c = kind_flat _ _ c.abs.ensures c.if-cross-eps.true c.if-abs-eps.true

pub returns-then-cross-eps : goal.returns-then-cross-eps
returns-then-cross-eps c = kind_neither _ _ c.abs.ensures c.if-cross-eps.true c.if-abs-eps.false

pub returns : goal.returns
returns c = kind_ear _ _ c.if-cross-eps.false
