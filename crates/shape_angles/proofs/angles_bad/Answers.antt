-- `shape_angles::angles_bad` meets its contract. Assumes nothing.
use borrow.Author.Rules.{rules}
use mathlib.Core.Path.{ap, ap₂, ◌∙◌}
use mathlib.Core.Bool.{not, ◌&&◌}
use Rattle.shape.specs.declared.Items.{Items}
use Rattle.shape.specs.Drawing.{list_within, angles_bad}
use Rattle.shape_angles.proofs.angles_bad.Goals as goal

pub returns : goal.returns
unfolding angles_bad
returns c =
    let args = c.args in
    let read = c.list_within.ensures ∙ ap (λ (i : Items). list_within args.cyl i args.list.now) c.items_of.ensures in
    ap not (ap₂ ◌&&◌ (ap₂ ◌&&◌ c.shape_within.ensures read) c.ops_angles_within.ensures)
