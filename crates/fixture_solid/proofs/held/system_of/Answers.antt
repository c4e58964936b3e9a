-- `fixture_solid::held::system_of` meets its contract. Assumes nothing.
use borrow.Author.Tests.{eq-eqb, ne_eqb}
use Rattle.fixture_spec.specs.Solids.{system_of}
use Rattle.fixture_solid.proofs.held.system_of.Goals as goal

pub returns-then-x-eq1 : goal.returns-then-x-eq1
unfolding system_of
returns-then-x-eq1 c = rw (eq-eqb _ _ c.if-x-eq1.true)

pub returns-else-x-eq1 : goal.returns-else-x-eq1
unfolding system_of
returns-else-x-eq1 c = rw (ne_eqb _ _ c.if-x-eq1.false)
