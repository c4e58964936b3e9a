-- `tessellate::are_floats` meets its contract. Assumes nothing.
use Rattle.tessellate.proofs.Floats.{solid_fits}
use Rattle.tessellate.proofs.are_floats.Goals as goal

pub returns : goal.returns
returns c = solid_fits c.args.shape c.args.list.now _ c.well_formed.0 c.type_inv.list
