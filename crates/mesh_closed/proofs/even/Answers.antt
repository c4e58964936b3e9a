-- `mesh_closed::even` meets its contract. Assumes nothing.
use lib.Dec.{eqb}
use Rattle.mesh_closed.proofs.even.Goals as goal

pub returns : goal.returns
returns c = λ j. eqb (c.count_uses.ensures j) (c.count_uses-2.ensures j)
