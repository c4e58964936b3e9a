-- `slice_byte_lists::get_words` meets its contract. Assumes nothing.
use mathlib.Core.Path.{◌≡◌, refl, sym, ap, ◌∙◌}
use native.Mathlib.Omega.{arith}
use Prim.Native.Nat.{ℕ, ◌≤◌, ◌-◌}
use lib.ListN.{length, take, length-set}
use lib.Seq.{take_all}
use Rattle.slice_byte_lists.specs.Lists.{words_of}
use Rattle.slice_byte_lists.proofs.Loops.{words_none, words_more}
use borrow.Author.Rules.{rules}
use Rattle.slice_byte_lists.proofs.get_words.Given as goal

abbrev pub invariant-loop-i : goal.invariant-loop-i
invariant-loop-i l = (l.i ≤ length l.initial.out) × (length l.out ≡ length l.initial.out) × (take l.i l.out ≡ words_of l.i l.b)
