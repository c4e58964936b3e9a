-- `slice::all_pass` meets its contract. Assumes nothing.
use Rattle.std.proofs.Common.{◌∙◌, ap, arith}
use Rattle.slice_law.specs.Next.{next_at}
use Rattle.slice.specs.EveryLaws.{every_turn, every_done}
use Rattle.slice.proofs.all_pass.Goals as goal

pub loop-x-preserved : goal.loop-x-preserved
loop-x-preserved g c k h =
    let l = c.loop-x in
    let s = c.args.s.now in
    let x = c.x-item.result in
    let b = c.test-ok.result in
    let passes = h x b c.test-ok.ensures ∙ ap k c.x-item.is in
    every_turn k s l.x-index _ l.ok b (next_at s l.x-index x (omega arith)) passes (l.invariant k h)

pub returns : goal.returns
returns g c k h =
    let l = c.loop-x in
    every_done k c.args.s.now l.x-index l.ok (omega arith) (l.invariant k h)
