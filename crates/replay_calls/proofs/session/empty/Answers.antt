-- `replay_calls::session::empty` meets its contract. Assumes nothing.
use Rattle.replay_calls.proofs.session.empty.Goals as goal

pub empty_record-requires : goal.empty_record-requires
empty_record-requires c = tt

pub returns : goal.returns
returns c = λ i. record { mesh = c.empty_record.ensures i; floats = 0; numbers = 0 }
