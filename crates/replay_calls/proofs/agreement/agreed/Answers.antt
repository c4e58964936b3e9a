-- `replay_calls::agreement::agreed` meets its contract. Assumes nothing.
use Rattle.replay_calls.specs.Agreed.{agreed_of}
use Rattle.replay_calls.proofs.agreement.agreed.Goals as goal

pub returns-then-a-b : goal.returns-then-a-b
unfolding agreed_of
returns-then-a-b c = simp c.if-a-b.true

pub returns-else-a-b : goal.returns-else-a-b
unfolding agreed_of
returns-else-a-b c = simp c.if-a-b.false
