-- `mesh_stay_finite::stay_finite_divided` meets its contract. Assumes nothing.
use Rattle.math_matrix.specs.Mat.{transform_point}
use borrow.Author.Rules.{rules}
use Rattle.mesh_stay_finite.proofs.stay_finite_divided.Goals as goal

pub returns : goal.returns
returns c = c.all_finite_by.ensures (transform_point c.args.a) (λ i h q e. search rules)
