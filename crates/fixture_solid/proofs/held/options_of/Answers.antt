-- `fixture_solid::held::options_of` meets its contract. Assumes nothing.
use Rattle.fixture_solid.proofs.held.options_of.Goals as goal

pub returns : goal.returns
returns c = λ i. record { segments = c.count_at.ensures.0 i; sphere_rings = c.count_at-2.ensures.0 i }
