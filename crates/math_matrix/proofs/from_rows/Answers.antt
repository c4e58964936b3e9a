-- `math_matrix::from_rows` meets its contract. Assumes nothing.
use mathlib.Core.Path.{refl}
use Rattle.math_matrix.specs.Mat.{from_rows}
use Rattle.math_matrix.proofs.from_rows.Goals as goal

pub returns : goal.returns
unfolding from_rows
returns c = refl
