-- `math_box::empty_box` meets its contract. Assumes nothing.
use lib.Ieee.{of_bits, div, neg}
use Rattle.math.specs.Box.{empty_box}
use Rattle.math_box.proofs.empty_box.Goals as goal

pub returns : goal.returns
unfolding empty_box of_bits div neg
returns c i = record { min = c.new.ensures i; max = c.new-2.ensures i }
