-- `replay_head::shapes::own_system` meets its contract. Assumes nothing.
use mathlib.Core.Path.{refl}
use borrow.Author.Tests.{ne_eqb}
use Rattle.replay_head.specs.Shapes.{own_system_of}
use Rattle.slice_law.specs.Arms.{of_kind}
use Rattle.replay_head.proofs.shapes.own_system.Goals as goal

pub returns-in-0 : goal.returns-in-0
unfolding own_system_of
returns-in-0 c = of_kind own_system_of 0 c.in-0.is refl

pub returns-in-1 : goal.returns-in-1
unfolding own_system_of
returns-in-1 c = of_kind own_system_of 1 c.in-1.is refl

pub returns-in_default : goal.returns-in_default
unfolding own_system_of
returns-in_default c =
    let n = c.in_default.in_default-own.rest in
    let x = c.args.x in
    simp (ne_eqb x 0 n.0.1, ne_eqb x 1 n.1)
