-- `shape_check::limits::bad_list` meets its contract. Assumes nothing.
use borrow.Author.Rules.{rules}
use mathlib.Core.Path.{sym, ap, ◌∙◌}
use Rattle.shape.specs.declared.Items.{Items}
use Rattle.shape.specs.Drawing.{bad_list}
use Rattle.shape_check.proofs.limits.bad_list.Goals as goal

pub returns-in-NoItems : goal.returns-in-NoItems
unfolding bad_list
returns-in-NoItems c = sym (ap (λ (i : Items). bad_list i c.args.n) c.in-NoItems.is)

pub returns-in-Corners : goal.returns-in-Corners
unfolding bad_list
returns-in-Corners c = c.bad_items.ensures ∙ sym (ap (λ (i : Items). bad_list i c.args.n) c.in-Corners.is)

pub returns-in-Points : goal.returns-in-Points
unfolding bad_list
returns-in-Points c = c.bad_items-in-Points.ensures ∙ sym (ap (λ (i : Items). bad_list i c.args.n) c.in-Points.is)

pub returns-in-Boxes : goal.returns-in-Boxes
unfolding bad_list
returns-in-Boxes c = c.bad_items-in-Boxes.ensures ∙ sym (ap (λ (i : Items). bad_list i c.args.n) c.in-Boxes.is)
