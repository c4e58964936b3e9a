-- `surface_outline::plane_point` meets its contract. Assumes nothing.
use Rattle.surface_outline.proofs.Cases.{plane_0, plane_1, plane_2}
use Rattle.surface_outline.proofs.plane_point.Goals as goal

pub returns-then-n-eq0 : goal.returns-then-n-eq0
returns-then-n-eq0 c = plane_0 _ _ _ c.if-n-eq0.true

pub returns-then-n-eq1 : goal.returns-then-n-eq1
returns-then-n-eq1 c = plane_1 _ _ _ c.if-n-eq1.true

pub returns-else-n-eq1 : goal.returns-else-n-eq1
returns-else-n-eq1 c = plane_2 _ _ _ c.requires c.if-n-eq0.false c.if-n-eq1.false
