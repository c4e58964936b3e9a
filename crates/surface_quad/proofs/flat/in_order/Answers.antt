-- `surface_quad::flat::in_order` meets its contract. Assumes nothing.
use Rattle.surface_quad.proofs.OneQuad.{order_high, order_low}
use Rattle.surface_quad.proofs.flat.in_order.Goals as goal

pub returns-then-side : goal.returns-then-side
returns-then-side c = order_high _ _ _ _ _ c.if-side.true

pub returns-else-side : goal.returns-else-side
returns-else-side c = order_low _ _ _ _ _ c.if-side.false
