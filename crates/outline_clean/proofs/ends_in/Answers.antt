-- `outline_clean::ends_in` meets its contract. Assumes nothing.
use Rattle.std.proofs.Common.{rules, arith}
use Rattle.outline.specs.Corners.{same}
use Rattle.outline.proofs.Laws.{ends_none, ends_same}
use Rattle.outline_clean.proofs.ends_in.Goals as goal

pub returns-then-m-gt0 : goal.returns-then-m-gt0
unfolding same
returns-then-m-gt0 c = ends_same _ _ _ c.requires (omega arith) c.corner.ensures (search rules)

pub returns-else-m-gt0 : goal.returns-else-m-gt0
returns-else-m-gt0 c = ends_none _ _ _ (omega arith)
