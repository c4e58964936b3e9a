-- `c_solids::boxes::box_in` meets its contract. Assumes nothing.
use mathlib.Core.Path.{refl}
use borrow.Author.Rules.{rules}
use Rattle.c_solids.specs.Boxes.{box_in}
use Rattle.c_solids.proofs.boxes.box_in.Goals as goal

pub returns : goal.returns
unfolding box_in
returns c = refl
