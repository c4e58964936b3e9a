-- `root::no_root` meets its contract. Assumes nothing.
use mathlib.Core.Path.{◌≡◌, refl, ◌∙◌}
use lib.Ieee.{nan, binary64, of_bits}
use Rattle.root.proofs.no_root.Goals as goal

pattern : of_bits binary64 0x7ff8000000000000 ≡ nan
unfolding of_bits
pattern = refl

pub returns : goal.returns
returns c = c.from_bits.ensures ∙ pattern
