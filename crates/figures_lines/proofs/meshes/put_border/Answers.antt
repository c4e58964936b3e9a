-- `figures_lines::meshes::put_border` meets its contract. Assumes nothing.
use borrow.Author.Rules.{rules}
use Rattle.figures_lines.proofs.Cases.{closed_text, open_text}
use Rattle.figures_lines.proofs.meshes.put_border.Goals as goal

pub returns-then-closed : goal.returns-then-closed
returns-then-closed c = closed_text _ c.if-closed.true c.put.ensures

pub returns : goal.returns
returns c = open_text _ c.if-closed.false c.put-2.ensures
