-- `figures_text::floats::is_whole` meets its contract. Assumes nothing.
use mathlib.Core.Path.{sym, ap, ◌∙◌}
use mathlib.Core.Bool.{Bool, ◌&&◌}
use lib.Ieee.{eq}
use Rattle.ieee_whole.specs.declared.Whole.{Whole}
use Rattle.ieee_whole.specs.Whole.{whole_of}
use Rattle.figures_text.specs.Floats.{is_whole}
use borrow.Author.Rules.{rules}
use Rattle.figures_text.proofs.floats.is_whole.Goals as goal

pub returns-then-y : goal.returns-then-y
unfolding is_whole
returns-then-y c =
    let y = c.args.y in
    ap {B = Bool} (λ (w : Whole). eq w.value y) c.nearest_whole-w.ensures
    ∙ sym (ap {B = Bool} (λ (t : Bool). t && eq (whole_of y).value y) c.if-y.true)

pub returns : goal.returns
unfolding is_whole
returns c =
    let y = c.args.y in
    sym (ap {B = Bool} (λ (t : Bool). t && eq (whole_of y).value y) c.if-y.false)
