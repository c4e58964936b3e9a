-- `mesh_triples::put_vertex` meets its contract. Assumes nothing.
use lib.ListN.{length-set}
use borrow.Author.Rules.{rules}
use native.Mathlib.Omega.{arith}
use Rattle.mesh_triples.proofs.put_vertex.Goals as goal

pub bounds-vertices-at-2 : goal.bounds-vertices-at-2
bounds-vertices-at-2 c = simp length-set (omega arith)

pub bounds-vertices-at-3 : goal.bounds-vertices-at-3
bounds-vertices-at-3 c = simp length-set (omega arith)
