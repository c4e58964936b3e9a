-- `figures_titles::put_turned_box` meets its contract. Assumes nothing.
use borrow.Author.Rules.{rules}
use Rattle.slice_text.specs.LineLaws.{then}
use Rattle.figures_titles.proofs.put_turned_box.Goals as goal

pub returns : goal.returns
returns c =
    then c.put-to.ensures
    (then c.put-to-2.ensures
    c.put.ensures)
