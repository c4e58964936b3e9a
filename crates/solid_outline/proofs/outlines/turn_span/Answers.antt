-- `solid_outline::outlines::turn_span` meets its contract. Assumes nothing.
use Rattle.solid_outline.specs.Turned.{turn_span}
use Rattle.solid_outline.proofs.outlines.turn_span.Goals as goal

pub returns-then-full : goal.returns-then-full
unfolding turn_span
returns-then-full c = rw c.if-full.true

pub returns-else-full : goal.returns-else-full
unfolding turn_span
returns-else-full c = rw c.if-full.false
