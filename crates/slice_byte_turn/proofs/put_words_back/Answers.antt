-- `slice_byte_turn::put_words_back` meets its contract. The invariant: at is where the last number that was written begins, and what stands from there on
-- is the first i numbers, each raised, the first last. Assumes nothing.
use mathlib.Core.Path.{◌≡◌, refl, ap, ◌∙◌}
use native.Mathlib.Omega.{arith}
use Prim.Native.Nat.{◌+◌, ◌-◌, ◌*◌, ◌≤◌}
use lib.ListN.{length}
use Rattle.slice_bytes_law.specs.Words.{length_with_word}
use Rattle.slice_byte_turn.proofs.Backwards.{Written, none_written, more_written, all_written}
use Rattle.slice_byte_turn.proofs.put_words_back.Goals as goal

pub loop-x-init : goal.loop-x-init
loop-x-init c =
    let a = c.args in
    (omega arith, refl, none_written a.v.now a.base a.b.now)

pub overflow_add-x : goal.overflow_add-x
overflow_add-x c = omega (arith, c.requires.below c.loop-x.x-index (omega arith))

pub put_word-requires : goal.put_word-requires
put_word-requires c = omega arith

pub loop-x-preserved : goal.loop-x-preserved
loop-x-preserved c =
    let p = c in
    let l = p.loop-x in
    let a = p.args in (
      omega arith,
      ap length p.put_word.ensures ∙ length_with_word _ _ _ ∙ l.invariant.1,
      more_written a.v.now a.base a.b.now l.b _ l.at (l.at - 4) l.x-index (omega arith) (omega arith) (omega arith) l.invariant.2
          p.put_word.ensures,
    )

pub shape_of-b : goal.shape_of-b
shape_of-b c = c.loop-x.invariant.1

pub returns : goal.returns
returns c =
    let l = c.loop-x in
    let a = c.args in
    let to = length a.b.now - 4 * length a.v.now in
    all_written a.v.now a.base a.b.now l.b l.at to l.x-index (omega arith) (omega arith) l.invariant.2
