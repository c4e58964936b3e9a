-- `shape_arc::counted_span` meets its contract. Assumes nothing.
use Rattle.ieee.specs.Number.{minimum, tau}
use lib.Ieee.{Float}
use mathlib.Core.Path.{◌≡◌, ◌∙◌, ap}
use Rattle.shape_arc.proofs.Spans.{counted, uncounted}
use lib.Ieee.{of_bits}
use borrow.Author.Rules.{rules}
use Rattle.shape_arc.proofs.counted_span.Goals as goal

pub returns-then-span : goal.returns-then-span
returns-then-span c = counted _ _ c.if-span.true (c.min.ensures ∙ ap (λ (x : Float). minimum x tau) c.abs.ensures)

pub returns-else-span : goal.returns-else-span
unfolding of_bits
returns-else-span c = uncounted _ c.if-span.false
