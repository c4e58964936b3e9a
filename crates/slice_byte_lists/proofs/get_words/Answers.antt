-- `slice_byte_lists::get_words` meets its contract. Assumes nothing.
use mathlib.Core.Path.{◌≡◌, refl, sym, ap, ◌∙◌}
use native.Mathlib.Omega.{arith}
use Prim.Native.Nat.{ℕ, ◌≤◌, ◌-◌}
use lib.ListN.{length, take, length-set}
use lib.Seq.{take_all}
use Rattle.slice_byte_lists.specs.Lists.{words_of}
use Rattle.slice_byte_lists.proofs.Loops.{words_none, words_more}
use borrow.Author.Rules.{rules}
use Rattle.slice_byte_lists.proofs.get_words.Goals as goal

pub loop-i-init : goal.loop-i-init
loop-i-init c = (omega arith, refl, words_none c.args.b.now c.args.out.now)

pub loop-i-preserved : goal.loop-i-preserved
loop-i-preserved c =
    let l = c.loop-i in
    let s = c in
    (omega arith, simp length-set l.invariant.1, words_more s.args.b.now l.out l.i c.word_at.result (omega arith) l.invariant.2 c.word_at.ensures)

pub shape_of-out : goal.shape_of-out
shape_of-out c = c.loop-i.invariant.1

pub returns : goal.returns
returns c =
    let l = c.loop-i in
    let e : l.i ≡ length c.args.out.now = omega arith in
    sym (take_all l.i l.out (omega arith)) ∙ l.invariant.2 ∙ ap (λ (n : ℕ). words_of n c.args.b.now) e
