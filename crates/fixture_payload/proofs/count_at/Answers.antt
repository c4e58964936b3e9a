-- `fixture_payload::count_at` meets its contract. Assumes nothing.
use borrow.Author.Rules.{rules}
use native.Mathlib.Omega.{arith}
use Rattle.fixture_spec.specs.Fields.{count_at}
use Rattle.fixture_payload.proofs.count_at.Goals as goal

pub returns : goal.returns
unfolding count_at
returns c = omega arith
