-- `outline_triangulate::lists::fan` meets its contract. Assumes nothing.
use Rattle.std.proofs.Common.{◌≡◌, ◌+◌, length, get_or, refl, arith}
use lib.Seq.{get_or-take, length-take-le}
use Rattle.outline_ears.specs.Inside.{idx_of}
use Rattle.outline_triangulate.proofs.Writing.{fanning_start, fanning_next, fanning_end}
use Rattle.outline_triangulate.proofs.lists.fan.Goals as goal

pub loop-k-init : goal.loop-k-init
loop-k-init c =
    let w = c.args.left.now in
    let n : length (idx_of w) ≡ w.m = length-take-le w.m w.idx (omega arith) in
    let g : get_or (idx_of w) 0 0 ≡ get_or w.idx 0 0 = get_or-take w.m w.idx 0 0 (omega arith) in
    (omega arith, rw g at (fanning_start c.args.t (idx_of w) c.args.out.now (omega arith)))

pub loop-k-preserved : goal.loop-k-preserved
loop-k-preserved c =
    let w = c.args.left.now in
    let l = c.loop-k in
    let n : length (idx_of w) ≡ w.m = length-take-le w.m w.idx (omega arith) in
    let g : get_or (idx_of w) l.k 0 ≡ get_or w.idx l.k 0 = get_or-take w.m w.idx l.k 0 (omega arith) in
    let g₁ : get_or (idx_of w) (l.k + 1) 0 ≡ get_or w.idx (l.k + 1) 0 = get_or-take w.m w.idx (l.k + 1) 0 (omega arith) in
    let p = rw (← g, ← g₁) at c.put.ensures in (
      omega arith,
      fanning_next c.args.t l.k _ (idx_of w) c.args.out.now l.out _ l.invariant.0 (omega arith) l.invariant.1 p,
    )

pub returns : goal.returns
returns c =
    let w = c.args.left.now in
    let l = c.loop-k in
    let n : length (idx_of w) ≡ w.m = length-take-le w.m w.idx (omega arith) in
    (refl, rw n at (fanning_end c.args.t l.k _ (idx_of w) c.args.out.now l.out l.invariant.0 (omega arith) l.invariant.1))
