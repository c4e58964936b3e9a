-- `math_norm::norm_sq` meets its contract. Assumes nothing.
use borrow.Author.Rules.{rules}
use Rattle.math.specs.Vec.{norm_sq}
use Rattle.math_norm.proofs.norm_sq.Goals as goal

pub returns : goal.returns
unfolding norm_sq
returns c = c.dot.ensures
