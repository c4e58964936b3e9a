-- `outline_ears::triangle_at` meets its contract. Assumes nothing.
use Rattle.outline_ears.proofs.Laws.{triangle_is}
use Rattle.outline_ears.proofs.triangle_at.Goals as goal

pub returns : goal.returns
returns c =
    let w = c.args.left.now in
    triangle_is c.args.v.now w.idx w.m c.requires.1 c.args.k c.requires.0 c.previous.ensures.0 c.next.ensures.0 c.point_of.ensures
    c.point_of-2.ensures c.point_of-3.ensures
