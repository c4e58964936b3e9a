-- `slice_byte_lists::put_words` meets its contract. Assumes nothing.
use mathlib.Core.Path.{◌≡◌, refl, sym, ap, ◌∙◌}
use native.Mathlib.Omega.{arith}
use Prim.Native.Nat.{ℕ, ◌≤◌, ◌-◌}
use lib.ListN.{length}
use Rattle.slice_byte_lists.specs.Lists.{with_words}
use Rattle.slice_byte_lists.proofs.Loops.{with_words_none, with_words_more, with_word_length}
use borrow.Author.Rules.{rules}
use Rattle.slice_byte_lists.proofs.put_words.Given as goal

abbrev pub invariant-loop-i : goal.invariant-loop-i
invariant-loop-i l = (l.i ≤ length l.v) × (length l.b ≡ length l.initial.b) × (l.b ≡ with_words l.i l.v l.initial.b)
