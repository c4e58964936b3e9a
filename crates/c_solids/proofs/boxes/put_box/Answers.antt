-- `c_solids::boxes::put_box` meets its contract. Assumes nothing.
use mathlib.Core.Path.{refl}
use Rattle.c_solids.specs.Boxes.{six_of}
use Rattle.c_solids.proofs.boxes.put_box.Goals as goal

pub returns : goal.returns
unfolding six_of
returns c = refl
