-- `mesh_made::keep` meets its contract. Assumes nothing.
use borrow.Author.Rules.{rules}
use Rattle.mesh_made.proofs.keep.Goals as goal

pub returns : goal.returns
returns c = record { vertices = search rules; triangles = search rules; work = search rules }
