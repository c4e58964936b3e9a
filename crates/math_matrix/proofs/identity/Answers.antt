-- `math_matrix::identity` meets its contract. Assumes nothing.
use lib.Ieee.{of_bits}
use Rattle.math_matrix.specs.Mat.{identity}
use Rattle.math_matrix.specs.MatLaws.{made}
use Rattle.math_matrix.proofs.identity.Goals as goal

pub returns : goal.returns
unfolding identity of_bits
returns c =
    made
    c.new_row.ensures
    c.new_row-2.ensures
    c.new_row-3.ensures
    c.new_row-4.ensures
    c.from_rows.ensures
