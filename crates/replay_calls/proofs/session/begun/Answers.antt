-- `replay_calls::session::begun` meets its contract. Assumes nothing.
use mathlib.Core.Bool.{true}
use Rattle.replay_calls.proofs.session.begun.Goals as goal

pub empty-requires : goal.empty-requires
empty-requires c = tt

pub empty-requires-2 : goal.empty-requires-2
empty-requires-2 c = tt

pub returns : goal.returns
returns c = (λ i. record { a = c.empty.ensures i; b = c.empty-2.ensures i; going = true })
