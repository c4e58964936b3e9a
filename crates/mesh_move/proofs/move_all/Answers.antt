-- `mesh_move::move_all` meets its contract: for finite vertices, or for others. Assumes nothing.
use mathlib.Core.Path.{sym, ◌∙◌}
use native.Mathlib.Omega.{arith}
use borrow.Author.Rules.{rules}
use Rattle.mesh_move.proofs.move_all.Goals as goal

pub move_finite-requires : goal.move_finite-requires
move_finite-requires c = record { within = omega arith; finite = sym c.all_finite.ensures ∙ c.if-all_finite.true }
