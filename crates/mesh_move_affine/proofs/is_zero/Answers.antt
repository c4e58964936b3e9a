-- `mesh_move_affine::is_zero` meets its contract. Assumes nothing.
use lib.Ieee.{of_bits}
use Rattle.mesh_move_affine.proofs.AffineLaws.{zero_test}
use Rattle.mesh_move_affine.proofs.is_zero.Goals as goal

pub returns : goal.returns
unfolding of_bits
returns c = zero_test c.args.x c.well_formed.0.1
