-- `outline_winding::signed_area` meets its contract. Assumes nothing.
use Rattle.std.proofs.Common.{◌≡◌, ◌+◌, ◌-◌, ◌/◌, ◌%◌, length, Float, sym, ap, ◌∙◌, arith}
use native.Mathlib.Nat.{mod-lt, sub-zero}
use lib.Ieee.{binary64, add, of_bits}
use Rattle.outline.specs.Corners.{point}
use Rattle.outline.specs.Area.{sides, wedge}
use Rattle.outline.proofs.Laws.{sides_next, area_is}
use Rattle.outline_winding.proofs.signed_area.Goals as goal

pub loop-i-init : goal.loop-i-init
loop-i-init c = let n = length c.args.v.now / 2 in ap (sides c.args.v.now n (of_bits binary64 0) 0) (sub-zero n)

pub corner-requires-in-loop-i : goal.corner-requires-in-loop-i
corner-requires-in-loop-i c = let n = length c.args.v.now / 2 in omega (arith, mod-lt (c.loop-i.i + 1) {m = n} (omega arith))

pub loop-i-preserved : goal.loop-i-preserved
loop-i-preserved c =
    let v = c.args.v.now in
    let n = length v / 2 in
    let l = c.loop-i in
    let w : c.wedge-s.result ≡ wedge (point v l.i) (point v ((l.i + 1) % n)) =
    c.wedge-s.ensures ∙ (λ i. wedge (c.corner.ensures i) (c.corner-in-loop-i.ensures i)) in
    ap (λ (x : Float). sides v n (add binary64 l.s x) (l.i + 1) (n - (l.i + 1))) w ∙ sym (sides_next v n l.s l.i (omega arith)) ∙ l.invariant

pub returns : goal.returns
returns c = area_is _ c.loop-i.s c.loop-i.i c.loop-i-test.false c.loop-i.invariant
