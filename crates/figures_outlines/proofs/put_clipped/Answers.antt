-- `figures_outlines::put_clipped` meets its contract. Assumes nothing.
use borrow.Author.Rules.{rules}
use Rattle.slice_text.specs.LineLaws.{then}
use Rattle.figures_outlines.proofs.put_clipped.Goals as goal

pub returns : goal.returns
returns c =
    then c.put_outline-to.ensures
    (then c.put_removed-to.ensures
    c.put_given.ensures)
