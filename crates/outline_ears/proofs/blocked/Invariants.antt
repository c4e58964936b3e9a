-- `outline_ears::blocked` meets its contract. Assumes nothing.
use Rattle.std.proofs.Common.{◌≡◌, drop}
use Rattle.outline_triangle.specs.Triangle.{blocks}
use Rattle.outline_ears.specs.Ears.{any, blocked}
use Rattle.outline_ears.specs.Inside.{idx_of}
use Rattle.outline_ears.proofs.blocked.Given as goal

abbrev pub invariant-loop-q : goal.invariant-loop-q
invariant-loop-q l = any (blocks l.v l.eps l.t) (drop l.q (idx_of l.left)) ≡ blocked l.v l.eps l.t (idx_of l.left)
