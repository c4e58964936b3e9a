-- `surface::point::round` meets its contract. Assumes nothing.
use mathlib.Core.Path.{sym}
use native.Mathlib.Nat.{mod-eq_of_lt}
use borrow.Author.Rules.{rules}
use Rattle.surface.proofs.point.round.Goals as goal

pub returns-then-i-len : goal.returns-then-i-len
returns-then-i-len c = sym (mod-eq_of_lt c.if-i-len.true)
