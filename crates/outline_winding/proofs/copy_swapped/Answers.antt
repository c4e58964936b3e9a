-- `outline_winding::copy_swapped` meets its contract. Assumes nothing.
use Rattle.std.proofs.Common.{◌≡◌, ◌/◌, length, refl, arith}
use Rattle.outline.proofs.Copies.{swapping_start, swapping_next, swapping_end}
use Rattle.outline_winding.proofs.copy_swapped.Goals as goal

pub loop-i-init : goal.loop-i-init
loop-i-init c = let a = c.args in swapping_start a.v.now a.out.now

pub loop-i-preserved : goal.loop-i-preserved
loop-i-preserved c =
    let a = c.args in
    let l = c.loop-i in
    let p = c.corner-p in
    swapping_next a.v.now l.i (record { x = p.result.y; y = p.result.x }) p.result a.out.now l.out _ (omega arith) p.ensures refl refl
    c.put_corner.auto.out l.invariant c.put_corner.ensures

pub returns : goal.returns
returns c =
    let a = c.args in
    let l = c.loop-i in
    let e : l.i ≡ length a.v.now / 2 = omega arith in
    rw e at (swapping_end a.v.now l.i a.out.now l.out e l.invariant)
