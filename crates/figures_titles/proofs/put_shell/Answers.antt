-- `figures_titles::put_shell` meets its contract. Assumes nothing.
use borrow.Author.Rules.{rules}
use Rattle.slice_text.specs.LineLaws.{then}
use Rattle.figures_titles.proofs.put_shell.Goals as goal

pub returns : goal.returns
returns c =
    then c.put-to.ensures
    (then c.put_float-to.ensures
    c.put.ensures)
