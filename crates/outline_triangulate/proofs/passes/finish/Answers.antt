-- `outline_triangulate::passes::finish` meets its contract. Assumes nothing.
use Rattle.std.proofs.Common.{arith}
use native.Mathlib.Nat.{le_refl}
use Rattle.outline_triangulate.proofs.Steps.{few_cut, three_cut}
use Rattle.outline_triangulate.proofs.passes.finish.Goals as goal

pub last-requires : goal.last-requires
last-requires c =
    let three = c.if-left-eq3.true in
    let s = c.requires.1 in
    let m = c.requires.2 in (
      s.there 0 (omega (arith, three)),
      s.there 1 (omega (arith, three)),
      s.there 2 (omega (arith, three)),
      record { room = omega (arith, three, m.room); few = omega (arith, three, m.few); short = m.short },
    )

pub returns-then-left-eq3 : goal.returns-then-left-eq3
returns-then-left-eq3 c =
    let a = c.args in
    let w = a.left.now in
    (c.last.ensures.0, three_cut a.v.now a.eps w.idx w.m a.cut a.out.now c.requires.1 c.if-left-eq3.true c.last.ensures.1)

pub returns : goal.returns
returns c =
    let a = c.args in
    let w = a.left.now in
    (le_refl a.cut.triangles, few_cut a.v.now a.eps w.idx w.m a.cut a.out.now c.requires.1 c.requires.2 c.if-left-eq3.false)
