-- `replay_head::shapes::system` meets its contract. Assumes nothing.
use mathlib.Core.Path.{refl}
use borrow.Author.Tests.{ne_eqb}
use Rattle.replay_head.specs.Shapes.{system_of}
use Rattle.slice_law.specs.Arms.{of_kind}
use Rattle.replay_head.proofs.shapes.system.Goals as goal

pub returns-then-x-eq1 : goal.returns-then-x-eq1
unfolding system_of
returns-then-x-eq1 c = of_kind system_of 1 c.if-x-eq1.true refl

pub returns-else-x-eq1 : goal.returns-else-x-eq1
unfolding system_of
returns-else-x-eq1 c = simp (ne_eqb c.args.x 1 c.if-x-eq1.false)
