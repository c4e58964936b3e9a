-- `math_rotation::turn` meets its contract. Assumes nothing.
use borrow.Author.Rules.{rules}
use lib.Ieee.{of_bits}
use Rattle.math_rotation.specs.Rotation.{turn}
use Rattle.math_matrix.specs.MatLaws.{made}
use Rattle.math_rotation.proofs.turn.Goals as goal

pub returns : goal.returns
unfolding turn of_bits
returns c =
    made
    c.new_row.ensures
    c.new_row-2.ensures
    c.new_row-3.ensures
    c.new_row-4.ensures
    c.from_rows.ensures
