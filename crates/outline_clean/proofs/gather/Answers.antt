-- `outline_clean::gather` meets its contract. Assumes nothing.
use Rattle.std.proofs.Common.{◌≡◌, ◌+◌, ◌*◌, List, take, drop, Float, sym, ap, ◌∙◌, arith}
use Rattle.outline.specs.Corners.{point}
use Rattle.outline.specs.Clean.{gathered, pushed}
use Rattle.outline.proofs.Laws.{gathered_next, gathered_end}
use Rattle.outline_clean.proofs.gather.Goals as goal

pub loop-i-preserved : goal.loop-i-preserved
loop-i-preserved c =
    let v = c.args.v.now in
    let l = c.loop-i in
    let g = c.push-m.ensures in
    let p : c.corner.result ≡ point v l.i = c.corner.ensures in (
      omega (arith, g.most),
      ap (λ (o : List Float). gathered o (drop (2 * (l.i + 1)) v)) (g.front ∙ ap (pushed (take (2 * l.m) l.out)) p)
          ∙ sym (gathered_next (take (2 * l.m) l.out) v l.i (omega arith))
          ∙ l.invariant.1,
    )

pub returns : goal.returns
returns c =
    let v = c.args.v.now in
    let l = c.loop-i in
    (sym (gathered_end (take (2 * l.m) l.out) v l.i c.loop-i-test.false) ∙ l.invariant.1, omega arith)
