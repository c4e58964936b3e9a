-- `mesh_move::under_matrix::move_known` meets its contract: for vertices that are known to be finite, or for any. Assumes nothing.
use borrow.Author.Rules.{rules}
use Rattle.mesh_move.proofs.under_matrix.move_known.Goals as goal

pub move_finite-requires : goal.move_finite-requires
move_finite-requires c = let p = c.requires in record { within = p.within; finite = p.finite c.if-finite.true }
