-- `fixture_field::field::known_first` meets its contract. Assumes nothing.
use borrow.Author.Tests.{ne_eqb, eq-eqb}
use Rattle.fixture_spec.specs.Fields.{known_first}
use Rattle.fixture_field.proofs.field.known_first.Goals as goal

pub returns-then-tag : goal.returns-then-tag
unfolding known_first
returns-then-tag c = rw c.if-tag.true

pub returns-then-tag-eq5 : goal.returns-then-tag-eq5
unfolding known_first
returns-then-tag-eq5 c = rw (c.if-tag.false, eq-eqb _ _ c.if-tag-eq5.true)

pub returns : goal.returns
unfolding known_first
returns c = rw (c.if-tag.false, ne_eqb _ _ c.if-tag-eq5.false)
