-- `slice_text::put` meets its contract. Assumes nothing.
use Rattle.std.proofs.Common.{arith}
use lib.Seq.{take_all}
use Rattle.slice_text.specs.LineLaws.{no_text, next_byte, puts_same}
use Rattle.slice_text.proofs.put.Goals as goal

pub loop-x-init : goal.loop-x-init
loop-x-init c = no_text _

pub loop-x-preserved : goal.loop-x-preserved
loop-x-preserved c = let l = c.loop-x in next_byte _ l.x-index (omega arith) l.invariant c.put_byte-to.ensures

pub returns : goal.returns
returns c = let l = c.loop-x in puts_same (take_all l.x-index c.args.b.now (omega arith)) l.invariant
