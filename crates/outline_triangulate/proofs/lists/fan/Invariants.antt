-- `outline_triangulate::lists::fan` meets its contract. Assumes nothing.
use Rattle.std.proofs.Common.{◌≤◌}
use Rattle.outline_ears.specs.Inside.{idx_of}
use Rattle.outline_triangulate.proofs.Writing.{Fanning}
use Rattle.outline_triangulate.proofs.lists.fan.Given as goal

abbrev pub invariant-loop-k : goal.invariant-loop-k
invariant-loop-k l = (1 ≤ l.k) × Fanning l.t l.k l.a (idx_of l.left) l.initial.out l.out
