-- `surface::turns::fill_entries` meets its contract. The invariant: the entries below k are right. Assumes nothing.
use mathlib.Core.Path.{◌≡◌, refl}
use Prim.Native.Nat.{ℕ, ◌+◌, ◌-◌, ◌≤◌}
use native.Mathlib.Omega.{arith}
use borrow.Author.Count.{below_none}
use lib.ListN.{length, length-set}
use Rattle.surface.specs.Turns.{turn_at, entry}
use Rattle.surface.proofs.Tables.{Entries, entries_more, turns_less}
use Rattle.surface.proofs.turns.fill_entries.Given as goal

abbrev pub invariant-loop-k : goal.invariant-loop-k
invariant-loop-k l = (l.k ≤ l.n + 1) × (length l.table ≡ length l.initial.table) × Entries (turn_at l.t) l.k l.table
