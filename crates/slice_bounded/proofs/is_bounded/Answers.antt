-- `slice_bounded::is_bounded` meets its contract. Assumes nothing.
use mathlib.Core.Path.{refl}
use lib.Ieee.{of_bits, neg}
use Rattle.slice_bounded.specs.Bounded.{is_bounded}
use Rattle.slice_bounded.proofs.is_bounded.Goals as goal

pub returns : goal.returns
unfolding is_bounded of_bits neg
returns c = refl
