-- `slice_byte_turn::turn_words` meets its contract. The invariant: the first i and the last i numbers have changed places. Assumes nothing.
use mathlib.Core.Path.{◌≡◌, refl, sym, ap, ◌∙◌, subst}
use native.Mathlib.Omega.{arith}
use Prim.Native.Nat.{ℕ, ◌+◌, ◌-◌, ◌/◌, ◌≤◌}
use mathlib.Core.List.{List}
use lib.ListN.{length}
use Rattle.slice_byte_turn.proofs.Turned.{Bytes, Turned, none_turned, one_turned, all_turned, length_exchanged}
use Rattle.slice_byte_turn.proofs.turn_words.Given as goal

abbrev pub invariant-loop-i : goal.invariant-loop-i
invariant-loop-i l = (length l.b ≡ length l.initial.b) × Bytes l.b × Turned l.initial.b l.b l.m l.i
