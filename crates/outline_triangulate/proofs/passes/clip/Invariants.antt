-- `outline_triangulate::passes::clip` meets its contract. Assumes nothing.
use Rattle.std.proofs.Common.{◌*◌}
use Rattle.outline_ears.specs.Inside.{idx_of}
use Rattle.outline_triangulate.specs.Triangulate.{passes}
use Rattle.outline_triangulate.specs.Slices.{clipping_of, none}
use Rattle.outline_triangulate.proofs.Steps.{Going}
use Rattle.outline_triangulate.proofs.passes.clip.Given as goal

abbrev pub invariant-loop-left : goal.invariant-loop-left
invariant-loop-left l = Going l.v l.eps (passes (l.fn.left.m * l.fn.left.m) l.v l.eps (clipping_of (idx_of l.fn.left) none l.fn.out)) l.fn.out l.left l.cut l.out

abbrev pub decreases-loop-left : goal.decreases-loop-left
decreases-loop-left l = l.left.m
