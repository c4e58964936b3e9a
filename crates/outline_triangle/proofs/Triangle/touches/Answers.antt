-- `outline_triangle::Triangle::touches` meets its contract. Assumes nothing.
use Rattle.std.proofs.Common.{rules}
use Rattle.outline.specs.Corners.{same}
use Rattle.outline_triangle.proofs.Triangle.touches.Goals as goal

pub returns-then-eq-2 : goal.returns-then-eq-2
unfolding same
returns-then-eq-2 c = search rules

pub returns-else-eq-2 : goal.returns-else-eq-2
unfolding same
returns-else-eq-2 c = search rules
