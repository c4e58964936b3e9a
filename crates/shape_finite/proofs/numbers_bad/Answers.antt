-- `shape_finite::numbers_bad` meets its contract. Assumes nothing.
use borrow.Author.Rules.{rules}
use mathlib.Core.Path.{ap, ap₂, ◌∙◌}
use mathlib.Core.Bool.{not, ◌&&◌}
use lib.Ieee.Scale.{finite}
use Rattle.slice.specs.Every.{every}
use Rattle.shape.specs.declared.Items.{Items}
use Rattle.shape.specs.Drawing.{list_of, numbers_bad}
use Rattle.shape_finite.proofs.numbers_bad.Goals as goal

pub returns : goal.returns
unfolding numbers_bad
returns c =
    let list = c.args.list.now in
    let read = c.list_finite.ensures ∙ ap (λ (k : Items). every finite (list_of k list)) c.items_of.ensures in
    ap not (ap₂ ◌&&◌ (ap₂ ◌&&◌ c.shape_finite.ensures read) c.ops_finite.ensures)
