-- `mesh_move_affine::is_one` meets its contract. Assumes nothing.
use lib.Ieee.{of_bits}
use Rattle.mesh_move_affine.proofs.AffineLaws.{one_test}
use Rattle.mesh_move_affine.proofs.is_one.Goals as goal

pub returns : goal.returns
unfolding of_bits
returns c = one_test c.args.x c.well_formed.0.1
