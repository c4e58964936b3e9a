-- `slice_byte_lists::put_words` meets its contract. Assumes nothing.
use mathlib.Core.Path.{◌≡◌, refl, sym, ap, ◌∙◌}
use native.Mathlib.Omega.{arith}
use Prim.Native.Nat.{ℕ, ◌≤◌, ◌-◌}
use lib.ListN.{length}
use Rattle.slice_byte_lists.specs.Lists.{with_words}
use Rattle.slice_byte_lists.proofs.Loops.{with_words_none, with_words_more, with_word_length}
use borrow.Author.Rules.{rules}
use Rattle.slice_byte_lists.proofs.put_words.Goals as goal

pub loop-i-init : goal.loop-i-init
loop-i-init c = (omega arith, refl, with_words_none c.args.v.now c.args.b.now)

pub loop-i-preserved : goal.loop-i-preserved
loop-i-preserved c =
    let s = c in
    let l = c.loop-i in
    let e = c.put_word.ensures in
    (omega arith, ap length e ∙ with_word_length _ _ _ ∙ l.invariant.1, with_words_more s.args.v.now s.args.b.now l.b _ l.i l.invariant.2 e)

pub shape_of-b : goal.shape_of-b
shape_of-b c = c.loop-i.invariant.1

pub returns : goal.returns
returns c =
    let l = c.loop-i in
    let s = c in
    let e : l.i ≡ length s.args.v.now = omega arith in
    l.invariant.2 ∙ ap (λ (n : ℕ). with_words n s.args.v.now s.args.b.now) e
