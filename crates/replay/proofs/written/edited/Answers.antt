-- `replay::written::edited` meets its contract. Assumes nothing.
use mathlib.Core.Path.{◌∙◌}
use Rattle.replay.proofs.Leaves.{kept_or}
use borrow.Author.Rules.{rules}
use Rattle.replay.proofs.written.edited.Goals as goal

pub returns : goal.returns
returns c = c.unwrap_or-mesh.ensures ∙ kept_or c.args.made c.args.m
