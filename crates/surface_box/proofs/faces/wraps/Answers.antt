-- `surface_box::faces::wraps` meets its contract. Assumes nothing.
use mathlib.Core.Bool.{false}
use Rattle.surface_box.proofs.Choices.{three_middle, three_other}
use Rattle.surface_box.proofs.faces.wraps.Goals as goal

pub returns-then-k-eq1 : goal.returns-then-k-eq1
returns-then-k-eq1 c = three_middle false c.args.turns false c.args.k c.if-k-eq1.true

pub returns-else-k-eq1 : goal.returns-else-k-eq1
returns-else-k-eq1 c = three_other false c.args.turns c.args.k c.if-k-eq1.false
