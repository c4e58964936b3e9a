-- `figures_text::floats::is_small_power` meets its contract. Assumes nothing.
use Rattle.figures_text.specs.Floats.{is_small_power}
use mathlib.Core.Path.{refl}
use Rattle.figures_text.proofs.floats.is_small_power.Goals as goal

pub returns : goal.returns
unfolding is_small_power
returns c = refl
