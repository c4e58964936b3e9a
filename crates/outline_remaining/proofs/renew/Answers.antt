-- `outline_remaining::renew` meets its contract. Assumes nothing.
use Rattle.std.proofs.Common.{refl}
use Rattle.outline_ears.specs.Inside.{idx_of}
use Rattle.outline_ears.proofs.Laws.{idx_length}
use Rattle.outline_remaining.proofs.Kept.{anew_is}
use Rattle.outline_remaining.proofs.renew.Goals as goal

pub returns : goal.returns
returns c =
    let a = c.args in
    let v = a.v.now in
    let w = a.left.now in (
      record { numbers = refl; count = refl },
      anew_is v a.eps (idx_of w) w.m a.k (idx_length v w.idx w.m c.requires.2) c.requires.0 c.requires.1 w.kinds
          c.previous-before.ensures.0 c.next-after.ensures.0 c.kind_at.ensures c.kind_at-2.ensures,
    )
