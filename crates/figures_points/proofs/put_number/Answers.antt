-- `figures_points::put_number` meets its contract. Assumes nothing.
use Rattle.slice_text.specs.LineLaws.{then}
use borrow.Author.Rules.{rules}
use Rattle.figures_points.proofs.put_number.Goals as goal

pub returns : goal.returns
returns c = then c.put-to.ensures c.put_decimal.ensures
