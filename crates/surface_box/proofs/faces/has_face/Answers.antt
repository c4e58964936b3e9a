-- `surface_box::faces::has_face` meets its contract. Assumes nothing.
use mathlib.Core.Path.{sym, ◌∙◌}
use Rattle.surface_box.proofs.Choices.{has_none, has_high, has_low}
use borrow.Author.Rules.{rules}
use Rattle.surface_box.proofs.faces.has_face.Goals as goal

pub returns-then-wraps : goal.returns-then-wraps
returns-then-wraps c = has_none _ _ _ _ (sym c.if-wraps.true ∙ c.wraps.ensures)

pub returns-then-f-eq1 : goal.returns-then-f-eq1
returns-then-f-eq1 c = has_high _ _ _ _ _ _ (sym c.if-wraps.false ∙ c.wraps.ensures) c.if-f-eq1.true c.axis.ensures c.axis-2.ensures

pub returns : goal.returns
returns c = has_low _ _ _ _ (sym c.if-wraps.false ∙ c.wraps.ensures) c.if-f-eq1.false
