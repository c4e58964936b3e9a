-- `transform_angles::within_1000` meets its contract. Assumes nothing.
use mathlib.Core.Path.{ap}
use lib.IntN.{pos}
use lib.Ieee.{Float, binary64, le, of_bits, of_int}
use borrow.Author.Rules.{rules}
use Rattle.transform.specs.Angle.{within1000}
use Rattle.transform_angles.proofs.within_1000.Goals as goal

pub returns : goal.returns
unfolding within1000 of_bits of_int
returns c = ap (λ (x : Float). le x (of_int binary64 (pos 1000))) c.abs.ensures
