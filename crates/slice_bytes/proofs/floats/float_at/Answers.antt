-- `slice_bytes::floats::float_at` meets its contract. Assumes nothing.
use mathlib.Core.Path.{ap, ◌∙◌}
use lib.Ieee.{binary64, of_bits}
use borrow.Author.Rules.{rules}
use Rattle.slice_bytes.proofs.floats.float_at.Goals as goal

pub returns : goal.returns
returns c = c.from_bits.ensures ∙ ap (of_bits binary64) c.long_at.ensures
