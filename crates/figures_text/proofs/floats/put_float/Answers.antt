-- `figures_text::floats::put_float` meets its contract. Assumes nothing.
use mathlib.Core.Path.{ap}
use Prim.Native.Nat.{ℕ}
use Rattle.slice_text.specs.LineLaws.{puts_same}
use Rattle.figures_text.specs.Floats.{float_bits_of}
use borrow.Author.Rules.{rules}
use Rattle.figures_text.proofs.floats.put_float.Goals as goal

pub returns : goal.returns
returns c = puts_same (ap (λ (b : ℕ). float_bits_of b) c.bits_of.ensures) c.put_float_bits.ensures
