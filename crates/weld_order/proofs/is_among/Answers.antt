-- `weld_order::is_among` meets its contract: a case for each way through. Assumes nothing.
use borrow.Author.Rules.{rules}
use mathlib.Core.Path.{◌∙◌}
use Rattle.weld_order.proofs.Among.{above_is, level_is, below_is}
use Rattle.weld_order.proofs.is_among.Goals as goal

pub returns-then-last-p : goal.returns-then-last-p
returns-then-last-p c = let a = c.args in above_is a.row a.last a.p c.if-last-p.true

pub returns-then-last-p-2 : goal.returns-then-last-p-2
returns-then-last-p-2 c = let a = c.args in c.is_beside.ensures ∙ level_is a.row a.last a.p c.if-last-p.false c.if-last-p-2.true

pub returns : goal.returns
returns c = let a = c.args in below_is a.row a.last a.p c.if-last-p.false c.if-last-p-2.false
