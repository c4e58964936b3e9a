-- `replay_head::asked::before_call` meets its contract. Assumes nothing.
use mathlib.Core.Path.{refl}
use Prim.Native.Nat.{ℕ}
use borrow.Author.Tests.{ne_eqb}
use Rattle.replay_head.specs.Asked.{before_call}
use Rattle.slice_law.specs.Arms.{of_kind}
use Rattle.replay_head.proofs.asked.before_call.Goals as goal

pub wide-requires : goal.wide-requires
wide-requires c = tt

pub returns-then-what-eq8 : goal.returns-then-what-eq8
unfolding before_call
returns-then-what-eq8 c = of_kind (λ (k : ℕ). before_call k c.args.n) 8 c.if-what-eq8.true refl

pub returns-else-what-eq8 : goal.returns-else-what-eq8
unfolding before_call
returns-else-what-eq8 c = simp (ne_eqb c.args.what 8 c.if-what-eq8.false) c.wide.ensures
