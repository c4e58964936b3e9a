-- `outline_triangulate::passes::triangulate_polygon` meets its contract. Assumes nothing.
use Rattle.std.proofs.Common.{◌/◌, length, refl, sym, ap, ◌∙◌, arith}
use Rattle.outline_ears.specs.Ears.{counting}
use Rattle.outline_remaining.proofs.Counted.{counting_inside}
use Rattle.outline_triangulate.proofs.Steps.{passes_start, three_start, triangulate_few, triangulate_is, cut_from, cut_short}
use Rattle.outline_triangulate.proofs.passes.triangulate_polygon.Goals as goal

pub returns-then-n-lt3 : goal.returns-then-n-lt3
returns-then-n-lt3 c = (triangulate_few c.args.v.now c.args.out.now c.if-n-lt3.true, omega arith)

pub returns-then-n-eq3 : goal.returns-then-n-eq3
returns-then-n-eq3 c =
    let f = c.last in
    let a = c.args in
    let v = a.v.now in
    let g =
    cut_from _ _ _ 0 a.out.now _ _
    (triangulate_is v _ _ c.if-n-lt3.false c.tolerance-eps.ensures (three_start v _ (length v / 2) a.out.now c.if-n-eq3.true))
    f.ensures.0 refl f.ensures.1 in
    (g, cut_short g)

pub clip-trimmed-requires : goal.clip-trimmed-requires
clip-trimmed-requires c =
    let p = c.counting-left.ensures in (
      omega arith,
      counting_inside c.args.v.now c.counting-left.result p.1 (omega arith) (omega arith) (p.2 ∙ ap (counting 0) (sym p.0)),
      record { room = omega arith; few = omega arith; short = omega arith },
      p.3,
    )

pub returns : goal.returns
returns c =
    let f = c.finish in
    let p = c.clip-trimmed in
    let n = c.counting-left in
    let a = c.args in
    let v = a.v.now in
    let s = p.ensures.state ∙ passes_start v c.tolerance-eps.result n.result (length v / 2) a.out.now n.ensures.0 n.ensures.2 in
    let g =
    cut_from _ _ _ p.result.cut.triangles a.out.now _ _
    (triangulate_is v _ _ c.if-n-lt3.false c.tolerance-eps.ensures s) f.ensures.0 p.ensures.rest f.ensures.1 in
    (g, cut_short g)
