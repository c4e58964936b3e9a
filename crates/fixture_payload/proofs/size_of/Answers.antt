-- `fixture_payload::size_of` meets its contract. Assumes nothing.
use borrow.Author.Rules.{rules}
use Rattle.fixture_spec.specs.Fields.{size_of}
use Rattle.fixture_payload.proofs.size_of.Goals as goal

pub returns : goal.returns
unfolding size_of
returns c = c.count_at.ensures
