-- `slice_byte_lists::put_floats` meets its contract. Assumes nothing.
use mathlib.Core.Path.{◌≡◌, refl, sym, ap, ◌∙◌}
use native.Mathlib.Omega.{arith}
use Prim.Native.Nat.{ℕ, ◌≤◌, ◌-◌}
use lib.ListN.{length}
use Rattle.slice_byte_lists.specs.Lists.{with_floats}
use Rattle.slice_byte_lists.proofs.Loops.{with_floats_none, with_floats_more, with_long_length}
use borrow.Author.Rules.{rules}
use Rattle.slice_byte_lists.proofs.put_floats.Given as goal

abbrev pub invariant-loop-i : goal.invariant-loop-i
invariant-loop-i l = (l.i ≤ length l.v) × (length l.b ≡ length l.initial.b) × (l.b ≡ with_floats l.i l.v l.initial.b)
