-- `fixture_field::check::check_fields` meets its contract. Assumes nothing.
use borrow.Author.Rules.{rules}
use borrow.Author.Tests.{not-true, not-false}
use mathlib.Core.Path.{sym, ◌∙◌}
use Prim.Native.Nat.{◌-◌}
use lib.ListN.{length}
use native.Mathlib.Omega.{arith}
use Rattle.refusal.specs.Laws.{accepted_is}
use Rattle.fixture_field.proofs.Cut.{fits}
use Rattle.fixture_field.proofs.Walk.{Walking, start, too_long, step, refused, end}
use Rattle.fixture_field.proofs.check.check_fields.Given as goal

abbrev pub invariant-loop-at : goal.invariant-loop-at
invariant-loop-at l = Walking l.file l.at l.solid

abbrev pub decreases-loop-at : goal.decreases-loop-at
decreases-loop-at l = length l.file - l.at
