-- `weld_order::first_row` meets its contract. Assumes nothing.
use mathlib.Core.Path.{refl}
use Rattle.weld_order.proofs.Following.{alone}
use Rattle.weld_order.proofs.first_row.Goals as goal

pub returns : goal.returns
returns c = (refl, alone c.args.p c.requires)
