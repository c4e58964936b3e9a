-- `math_matrix_ops::product_entry` meets its contract. Assumes nothing.
use mathlib.Core.Path.{refl}
use lib.Ieee.{of_bits}
use Rattle.math_matrix.specs.Mat.{product_entry}
use Rattle.math_matrix_ops.proofs.product_entry.Goals as goal

pub returns : goal.returns
unfolding product_entry of_bits
returns c = refl
