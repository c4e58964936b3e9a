-- `mesh_move::move_finite` meets its contract: by the loop without a division, or by the one with it. Assumes nothing.
use borrow.Author.Rules.{rules}
use Rattle.mesh_move.proofs.move_finite.Goals as goal

pub move_all-requires : goal.move_all-requires
move_all-requires c = record { vertices = c.requires; affine = c.is_affine.ensures.yes c.if-is_affine.true }
