-- `slice::clear_from` meets its contract. Assumes nothing.
use Rattle.std.proofs.Common.{◌≡◌, length}
use Rattle.slice.specs.ClearedLaws.{Clearing}
use Rattle.slice.proofs.clear_from.Given as goal

abbrev pub invariant-loop-i : goal.invariant-loop-i
invariant-loop-i g l = (l.i-end ≡ length l.initial.s) × Clearing l.zero l.from l.initial.s l.s l.i
