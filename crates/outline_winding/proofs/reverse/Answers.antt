-- `outline_winding::reverse` meets its contract. Assumes nothing.
use Rattle.std.proofs.Common.{◌≡◌, ◌+◌, ◌-◌, ap, arith}
use native.Mathlib.Nat.{sub-zero}
use Rattle.outline.proofs.Copies.{Turning, turning_start, turning_next, turning_end}
use Rattle.outline_winding.proofs.reverse.Goals as goal

pub loop-i-init : goal.loop-i-init
loop-i-init c = simp sub-zero (turning_start c.args.n c.args.out.now c.requires)

pub loop-i-preserved : goal.loop-i-preserved
loop-i-preserved c =
    let l = c.loop-i in
    let n = c.args.n in
    let e : n - l.i - 1 ≡ n - (l.i + 1) = omega arith in
    rw e at (turning_next n l.i (n - l.i) c.args.out.now l.out _ _ _ _ (omega arith) l.invariant
    c.corner-p.ensures c.corner-q.ensures c.put_corner.ensures c.put_corner-in-loop-i.ensures)

pub returns : goal.returns
returns c =
    let l = c.loop-i in
    turning_end c.args.n l.i (c.args.n - l.i) c.args.out.now l.out (omega arith) (omega arith) (omega arith) l.invariant
