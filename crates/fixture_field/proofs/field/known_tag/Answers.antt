-- `fixture_field::field::known_tag` meets its contract. Assumes nothing.
use borrow.Author.Rules.{rules}
use Rattle.fixture_spec.specs.Fields.{known_tag}
use Rattle.fixture_field.proofs.field.known_tag.Goals as goal

pub returns : goal.returns
unfolding known_tag
returns c = cc
