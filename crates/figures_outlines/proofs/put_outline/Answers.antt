-- `figures_outlines::put_outline` meets its contract. Assumes nothing.
use borrow.Author.Rules.{rules}
use Rattle.slice_text.specs.LineLaws.{then}
use Rattle.figures_outlines.proofs.put_outline.Goals as goal

pub returns : goal.returns
returns c =
    then c.put-to.ensures
    c.put_corners.ensures
