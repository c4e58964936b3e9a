-- `shape_arc::arc_segments` meets its contract. Assumes nothing.
use Rattle.shape_arc.specs.Arc.{arc_segments}
use borrow.Author.Rules.{rules}
use Rattle.shape_arc.proofs.arc_segments.Goals as goal

pub returns : goal.returns
unfolding arc_segments
returns c = search rules
