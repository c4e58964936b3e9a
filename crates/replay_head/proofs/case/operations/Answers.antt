-- `replay_head::case::operations` meets its contract. Assumes nothing.
use mathlib.Core.Path.{◌∙◌, ap}
use Prim.Native.Nat.{ℕ}
use Rattle.replay_head.specs.Kept.{ops_of}
use borrow.Author.Rules.{rules}
use Rattle.replay_head.proofs.case.operations.Goals as goal

pub returns : goal.returns
returns c = c.ops.ensures ∙ ap (λ (n : ℕ). ops_of c.args.buf.now n) c.wide.ensures
