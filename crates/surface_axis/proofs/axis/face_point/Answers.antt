-- `surface_axis::axis::face_point` meets its contract. Assumes nothing.
use Rattle.surface_axis.proofs.Cases.{face_0, face_1, face_2}
use Rattle.surface_axis.proofs.axis.face_point.Goals as goal

pub returns-then-k-eq0 : goal.returns-then-k-eq0
returns-then-k-eq0 c = face_0 _ _ _ _ c.if-k-eq0.true

pub returns-then-k-eq1 : goal.returns-then-k-eq1
returns-then-k-eq1 c = face_1 _ _ _ _ c.if-k-eq1.true

pub returns-else-k-eq1 : goal.returns-else-k-eq1
returns-else-k-eq1 c = face_2 _ _ _ _ c.requires c.if-k-eq0.false c.if-k-eq1.false
