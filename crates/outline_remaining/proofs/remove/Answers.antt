-- `outline_remaining::remove` meets its contract. Assumes nothing.
use Rattle.std.proofs.Common.{arith}
use Rattle.outline_remaining.specs.Without.{TakenOut}
use Rattle.outline_remaining.proofs.Taken.{taken_out}
use Rattle.outline_remaining.proofs.Kept.{removed_inside, removed_is}
use Rattle.outline_remaining.proofs.remove.Goals as goal

pub renew-requires : goal.renew-requires
renew-requires c =
    let a = c.args in
    let w = a.left.now in
    let s = c.requires.2 in
    let t : TakenOut a.k w.m w.idx c.copy_within.new.self = rw c.copy_within.ensures.after (taken_out a.k w.m w.idx s.long c.requires.1 s.small) in
    (omega arith, omega arith, removed_inside a.v.now w.m a.k w.idx _ c.requires.1 s t)

pub returns : goal.returns
returns c =
    let a = c.args in
    let w = a.left.now in
    let s = c.requires.2 in
    let p = c.requires.3 in
    let t : TakenOut a.k w.m w.idx c.copy_within.new.self = rw c.copy_within.ensures.after (taken_out a.k w.m w.idx s.long c.requires.1 s.small) in
    let t' : TakenOut a.k w.m w.kinds c.copy_within-2.new.self = rw c.copy_within-2.ensures.after (taken_out a.k w.m w.kinds p.long c.requires.1 s.small) in
    removed_is a.v.now a.eps a.k w _ _ c.requires.0 c.requires.1 s p t t' _ c.renew.ensures.0 c.renew.ensures.1
