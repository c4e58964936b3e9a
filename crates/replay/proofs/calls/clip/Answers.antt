-- `replay::calls::clip` meets its contract. Assumes nothing.
use native.Mathlib.Omega.{arith}
use borrow.Author.Rules.{rules}
use Rattle.replay.proofs.Leaves.{leaves_slice}
use Rattle.replay.proofs.calls.clip.Goals as goal

pub returns-then-not-three_words : goal.returns-then-not-three_words
returns-then-not-three_words c = leaves_slice _ _ _ _ _ c.clip_outline-clipped.ensures (omega arith)

pub returns : goal.returns
returns c = leaves_slice _ _ _ _ _ c.clip_outline-clipped.ensures (omega arith)
