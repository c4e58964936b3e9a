-- `mesh_write::copy` meets its contract. Assumes nothing.
use mathlib.Core.Path.{refl, ap, ◌∙◌}
use Prim.Native.Nat.{◌+◌}
use lib.ListN.{length}
use lib.Seq.{paste-zero, length-paste}
use lib.Ieee.{nan}
use Rattle.mesh_write.proofs.Copies.{paste_turn, paste_end}
use native.Mathlib.Omega.{arith}
use Rattle.mesh_write.proofs.copy.Goals as goal

pub loop-i-init : goal.loop-i-init
loop-i-init c =
    let a = c.args in
    (omega arith, refl, paste-zero a.out.now a.at a.from.now)

pub loop-i-preserved : goal.loop-i-preserved
loop-i-preserved c =
    let l = c.loop-i in
    let a = c.args in
    let e = paste_turn a.out.now a.at a.from.now l.i nan l.out (omega arith) (omega arith) l.invariant.2 in
    (omega arith, ap length e ∙ length-paste a.out.now a.at a.from.now (l.i + 1) (omega arith) (omega arith), e)

pub shape_of-out : goal.shape_of-out
shape_of-out c = c.loop-i.invariant.1

pub returns : goal.returns
returns c =
    let l = c.loop-i in
    let a = c.args in
    paste_end a.out.now a.at a.from.now l.i a.count l.out (omega arith) l.invariant.2
