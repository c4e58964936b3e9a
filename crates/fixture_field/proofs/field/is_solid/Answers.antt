-- `fixture_field::field::is_solid` meets its contract. Assumes nothing.
use mathlib.Core.Path.{refl}
use Rattle.fixture_spec.specs.Fields.{is_solid}
use Rattle.fixture_field.proofs.field.is_solid.Goals as goal

pub returns : goal.returns
unfolding is_solid
returns c = refl
