-- `math_norm::norm` meets its contract. Assumes nothing.
use mathlib.Core.Path.{◌∙◌}
use lib.Ieee.{binary64}
use Rattle.root.specs.Sqrt.{sqrt}
use borrow.Author.Rules.{rules}
use Rattle.math.specs.Vec.{norm}
use Rattle.math_norm.proofs.norm.Goals as goal

pub returns : goal.returns
unfolding norm
returns c = c.sqrt.ensures.value ∙ (λ i. sqrt binary64 (c.norm_sq.ensures i))
