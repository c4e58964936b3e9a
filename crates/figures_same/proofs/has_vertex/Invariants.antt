-- `figures_same::has_vertex` meets its contract: none of the vertices passed is the point. Assumes nothing.
use Rattle.figures_same.proofs.Searches.{Passed}
use Rattle.figures_same.proofs.has_vertex.Given as goal

abbrev pub invariant-loop-m : goal.invariant-loop-m
invariant-loop-m l = Passed l.v l.p l.m
