-- `slice_text::put` meets its contract. Assumes nothing.
use Rattle.std.proofs.Common.{take}
use Rattle.slice_text.specs.Line.{line, Puts}
use Rattle.slice_text.proofs.put.Given as goal

abbrev pub invariant-loop-x : goal.invariant-loop-x
invariant-loop-x l = Puts (take l.x-index l.b) (line l.initial.out l.at) (line l.out l.to)
