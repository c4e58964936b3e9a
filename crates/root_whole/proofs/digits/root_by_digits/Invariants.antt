-- `root_whole::digits::root_by_digits` meets its contract. Assumes nothing.
use Rattle.std.proofs.Common.{◌-◌}
use Rattle.root_whole.proofs.Turns.{Inv}
use Rattle.root_whole.proofs.digits.root_by_digits.Given as goal

abbrev pub invariant-loop-k : goal.invariant-loop-k
invariant-loop-k l = Inv l.m (53 - l._k) l.b l.q l.rest
