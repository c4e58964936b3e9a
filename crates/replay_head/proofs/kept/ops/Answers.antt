-- `replay_head::kept::ops` meets its contract. Assumes nothing.
use mathlib.Core.Path.{◌≡◌, refl}
use native.Mathlib.Omega.{arith}
use Prim.Native.Nat.{◌≤◌, ◌-◌, ◌*◌, ◌/◌, min}
use lib.ListN.{length, length-set}
use Rattle.replay_head.specs.Kept.{ops_read}
use Rattle.replay_head.proofs.Reading.{reading_none, reading_more, reading_done}
use Rattle.replay_head.proofs.kept.ops.Goals as goal

pub loop-i-init : goal.loop-i-init
loop-i-init c = (omega arith, omega arith, omega arith, reading_none _)

pub overflow_mul-i : goal.overflow_mul-i
overflow_mul-i c = omega arith

pub op_at-op-requires : goal.op_at-op-requires
op_at-op-requires c = omega arith

pub loop-i-preserved : goal.loop-i-preserved
loop-i-preserved c =
    let l = c.loop-i in
    let e = reading_more l.i c.args.b.now l.out c.op_at-op.result (omega arith) l.invariant.3 c.op_at-op.ensures in
    (omega arith, omega arith, simp length-set (omega arith), e)

pub returns : goal.returns
returns c =
    let l = c.loop-i in
    let s = c.args in
    reading_done _ l.i s.count s.b.now _ l.invariant.1 (omega arith) l.invariant.3
