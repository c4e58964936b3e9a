-- `shape_angles::points_within` meets its contract. The loop passes points whose angles are within 1,000: the rest decides. Assumes nothing.
use borrow.Author.Rules.{rules}
use mathlib.Core.Path.{◌≡◌}
use Rattle.std.specs.Slice.Iter.{chunks_exact_size, chunks_exact_rest}
use Rattle.shape.specs.Drawing.{points_within}
use Rattle.shape_angles.proofs.points_within.Given as goal

abbrev pub invariant-loop-point : goal.invariant-loop-point
invariant-loop-point l = record {
  size : chunks_exact_size l.point-iterator ≡ 3;
  rest : points_within l.list ≡ points_within (chunks_exact_rest l.point-iterator);
}
