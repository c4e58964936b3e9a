-- `shape_angles::point_within` meets its contract. Assumes nothing.
use borrow.Author.Rules.{rules}
use mathlib.Core.Path.{ap}
use mathlib.Core.Bool.{Bool, not, ◌||◌}
use Rattle.shape.specs.Drawing.{point_within}
use Rattle.shape_angles.proofs.point_within.Goals as goal

pub returns : goal.returns
unfolding point_within
returns c = ap (λ (b : Bool). not c.args.cyl || b) c.within_1000.ensures
