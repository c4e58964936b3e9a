-- `slice_text::put_spaces` meets its contract. Assumes nothing.
use Rattle.std.proofs.Common.{replicate}
use Rattle.slice_text.specs.Line.{line, Puts}
use Rattle.slice_text.proofs.put_spaces.Given as goal

abbrev pub invariant-loop : goal.invariant-loop
invariant-loop l = Puts (replicate l.counter 32) (line l.initial.out l.at) (line l.out l.to)
