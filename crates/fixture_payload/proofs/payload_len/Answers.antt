-- `fixture_payload::payload_len` meets its contract. Assumes nothing.
use borrow.Author.Rules.{rules}
use native.Mathlib.Omega.{arith}
use Rattle.fixture_payload.proofs.Lengths.{payload_length}
use Rattle.fixture_payload.proofs.payload_len.Goals as goal

pub returns-then-n-rest : goal.returns-then-n-rest
returns-then-n-rest c = omega (arith, payload_length c.args.after.now)

pub returns-else-n-rest : goal.returns-else-n-rest
returns-else-n-rest c = omega (arith, payload_length c.args.after.now)
