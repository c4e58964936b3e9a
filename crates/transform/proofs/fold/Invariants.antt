-- `transform::fold` meets its contract. The loop's invariant: `acc` is the matrix of the first `x-index` operations.
use Rattle.std.proofs.Common.{◌≡◌, take}
use Rattle.transform.specs.Ops.{folded}
use Rattle.transform.proofs.fold.Given as goal

abbrev pub invariant-loop-op : goal.invariant-loop-op
invariant-loop-op l = l.acc ≡ folded l.o.degrees (take l.op-index (take l.o.count l.o.ops))
