-- `trig::to_radians` meets its contract. Assumes nothing.
use mathlib.Core.Path.{refl}
use Rattle.trig.specs.Angle.{to_radians, per_degree}
use Rattle.trig.proofs.to_radians.Goals as goal

pub returns : goal.returns
unfolding to_radians per_degree
returns c = refl
