-- `outline_remaining::all_kinds` meets its contract. Assumes nothing.
use Rattle.std.proofs.Common.{◌≡◌, List, take, length, refl, ap, ◌∙◌, arith}
use native.Mathlib.Nat.{not-suc-le-zero}
use Prim.Native.Nat.{ℕ}
use Rattle.outline_ears.specs.Inside.{idx_of}
use Rattle.outline_ears.specs.Kinds.{kind_at}
use Rattle.outline_remaining.proofs.Kept.{filling_next}
use Rattle.outline_remaining.proofs.all_kinds.Goals as goal

pub loop-k-init : goal.loop-k-init
loop-k-init c = (record { numbers = refl; count = refl }, record { long = c.requires.1; done = λ j h. absurd (not-suc-le-zero h) })

pub loop-k-preserved : goal.loop-k-preserved
loop-k-preserved c =
    let l = c.loop-k in
    let q = l.invariant.0 in
    let same : idx_of l.left ≡ idx_of c.args.left.now = λ j. take (q.count j) (q.numbers j) in (
      record { numbers = q.numbers; count = q.count },
      filling_next c.args.v.now c.args.eps (idx_of c.args.left.now) l.k l.left.kinds (omega (arith, c.requires.0.small)) l.invariant.1
          (c.kind_at.ensures ∙ ap (λ (i : List ℕ). kind_at c.args.v.now c.args.eps i l.k) same),
    )

pub returns : goal.returns
returns c =
    let l = c.loop-k in
    let q = l.invariant.0 in
    (q, rw (q.numbers, q.count) (record { long = l.invariant.1.long; there = λ k h. l.invariant.1.done k (omega arith) }))
