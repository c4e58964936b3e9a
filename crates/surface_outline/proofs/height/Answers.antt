-- `surface_outline::height` meets its contract. Assumes nothing.
use Rattle.surface_outline.proofs.Cases.{height_low, height_high}
use Rattle.surface_outline.proofs.height.Goals as goal

pub returns-then-k-eq0 : goal.returns-then-k-eq0
returns-then-k-eq0 c = height_low _ _ _ c.if-k-eq0.true

pub returns-else-k-eq0 : goal.returns-else-k-eq0
returns-else-k-eq0 c = height_high _ _ _ c.if-k-eq0.false
