-- `slice_byte_turn::put_words_back` meets its contract. The invariant: at is where the last number that was written begins, and what stands from there on
use mathlib.Core.Path.{◌≡◌, refl, ap, ◌∙◌}
use native.Mathlib.Omega.{arith}
use Prim.Native.Nat.{◌+◌, ◌-◌, ◌*◌, ◌≤◌}
use lib.ListN.{length}
use Rattle.slice_bytes_law.specs.Words.{length_with_word}
use Rattle.slice_byte_turn.proofs.Backwards.{Written, none_written, more_written, all_written}
use Rattle.slice_byte_turn.proofs.put_words_back.Given as goal

abbrev pub invariant-loop-x : goal.invariant-loop-x
invariant-loop-x l = (l.at + 4 * l.x-index ≡ length l.initial.b) × (length l.b ≡ length l.initial.b) × Written l.v l.base l.initial.b l.b l.at l.x-index
