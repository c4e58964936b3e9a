-- `slice::clear_from` meets its contract. Assumes nothing.
use Rattle.std.proofs.Common.{arith}
use Rattle.std.proofs.Math.ListN.{length-set}
use Rattle.slice.specs.ClearedLaws.{clearing_more, clearing_done}
use Rattle.slice.proofs.clear_from.Goals as goal

pub loop-i-preserved : goal.loop-i-preserved
loop-i-preserved g c =
    let l = c.loop-i in
    let a = c.args in
    let m = l.invariant.1 in (
      omega arith,
      record {
        from = omega arith;
        within = omega arith;
        same = simp length-set m.same;
        is = clearing_more a.zero a.from a.s.now _ l.i m (omega arith);
      },
    )

pub returns : goal.returns
returns g c =
    let l = c.loop-i in
    let a = c.args in
    clearing_done a.zero a.from a.s.now _ l.i l.invariant.1 (omega arith)
