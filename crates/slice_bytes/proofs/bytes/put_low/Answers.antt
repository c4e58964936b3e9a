-- `slice_bytes::bytes::put_low` meets its contract. Assumes nothing.
use Prim.Native.Nat.{◌+◌}
use native.Mathlib.Omega.{arith}
use lib.ListN.{set, length-set}
use Rattle.slice_bytes.specs.Bytes.{with_word}
use borrow.Author.Rules.{rules}
use Rattle.slice_bytes.proofs.bytes.put_low.Goals as goal

pub bounds-b-at-2 : goal.bounds-b-at-2
bounds-b-at-2 c = simp length-set (omega arith)

pub bounds-b-at-3 : goal.bounds-b-at-3
bounds-b-at-3 c = simp length-set (omega arith)

pub bounds-b-at-4 : goal.bounds-b-at-4
bounds-b-at-4 c = simp length-set (omega arith)

pub returns : goal.returns
unfolding with_word
returns c i =
    let c1 = c in
    let a = c1.args in
    set (set (set (set a.b.now a.at (c1.low_byte.ensures i)) (a.at + 1) (c.low_byte-2.ensures i)) (a.at + 2) (c.low_byte-3.ensures i)) (a.at + 3)
    (c.low_byte-4.ensures i)
