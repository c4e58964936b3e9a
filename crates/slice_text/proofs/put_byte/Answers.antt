-- `slice_text::put_byte` meets its contract. Assumes nothing.
use mathlib.Core.Path.{sym}
use Rattle.slice_text.specs.LineLaws.{byte_fits, byte_over}
use borrow.Author.Rules.{rules}
use Rattle.slice_text.proofs.put_byte.Goals as goal

pub returns-then-at-out : goal.returns-then-at-out
returns-then-at-out c = sym (byte_fits _ _ _ c.if-at-out.true)

pub returns : goal.returns
returns c = sym (byte_over _ _ _ c.if-at-out.false)
