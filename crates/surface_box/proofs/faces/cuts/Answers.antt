-- `surface_box::faces::cuts` meets its contract. Assumes nothing.
use Rattle.surface_box.proofs.Choices.{three_middle, three_other}
use Rattle.surface_box.proofs.faces.cuts.Goals as goal

pub returns-then-k-eq1 : goal.returns-then-k-eq1
returns-then-k-eq1 c = three_middle 1 c.args.n 1 c.args.k c.if-k-eq1.true

pub returns-else-k-eq1 : goal.returns-else-k-eq1
returns-else-k-eq1 c = three_other 1 c.args.n c.args.k c.if-k-eq1.false
