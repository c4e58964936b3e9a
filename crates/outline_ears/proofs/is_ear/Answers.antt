-- `outline_ears::is_ear` meets its contract. Assumes nothing.
use Rattle.std.proofs.Common.{sym, ◌∙◌}
use Rattle.outline_ears.proofs.Laws.{is_ear_not, is_ear_is, ear_at}
use Rattle.outline_ears.proofs.is_ear.Goals as goal

pub returns-then-eq : goal.returns-then-eq
returns-then-eq c =
    let a = c.args in
    let w = a.left.now in
    is_ear_is a.v.now a.eps w.idx w.kinds w.m c.requires.1 c.requires.2 a.k c.requires.0
    (ear_at w.kinds a.k c.eq.ensures c.if-eq.true) c.triangle_at.ensures c.blocked.ensures

pub returns-else-eq : goal.returns-else-eq
returns-else-eq c =
    let a = c.args in
    let w = a.left.now in
    c.if-eq.false ∙ is_ear_not a.v.now a.eps w.idx w.kinds w.m c.requires.1 c.requires.2 a.k c.requires.0
    (ear_at w.kinds a.k c.eq.ensures c.if-eq.false)
