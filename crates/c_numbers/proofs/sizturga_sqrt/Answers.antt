-- `c_numbers::sizturga_sqrt` meets its contract, by that of `root::sqrt`. Assumes nothing.
use borrow.Author.Rules.{rules}
use Rattle.c_numbers.proofs.sizturga_sqrt.Goals as goal

pub returns : goal.returns
returns c = c.sqrt.ensures
