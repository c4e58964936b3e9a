-- `mesh_move::move_divided` meets its contract. Assumes nothing.
use borrow.Author.Rules.{rules}
use Rattle.mesh_move.proofs.move_divided.Goals as goal

pub returns : goal.returns
returns c = c.move_by.ensures c.args.a (λ i h q e. search rules)
