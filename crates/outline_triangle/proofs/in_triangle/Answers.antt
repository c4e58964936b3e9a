-- `outline_triangle::in_triangle` meets its contract. Assumes nothing.
use Rattle.std.proofs.Common.{◌∙◌}
use Rattle.outline_triangle.proofs.Laws.{in_triangle_third, in_triangle_beyond}
use Rattle.outline_triangle.proofs.in_triangle.Goals as goal

pub returns-then-cross-eps : goal.returns-then-cross-eps
returns-then-cross-eps c = in_triangle_third _ _ _ _ _ c.cross.ensures c.cross-2.ensures c.if-cross-eps.true c.cross-then-cross-eps.ensures

pub returns-else-cross-eps : goal.returns-else-cross-eps
returns-else-cross-eps c = c.if-cross-eps.false ∙ in_triangle_beyond _ _ _ _ _ c.cross.ensures c.cross-2.ensures c.if-cross-eps.false
