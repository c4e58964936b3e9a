-- `mesh_move_affine::affine_point` meets its contract. Assumes nothing.
use mathlib.Core.Path.{refl}
use Rattle.math_matrix.specs.Mat.{along}
use Rattle.mesh_move_affine.specs.Affine.{affine_point}
use borrow.Author.Rules.{rules}
use Rattle.mesh_move_affine.proofs.affine_point.Goals as goal

pub returns : goal.returns
unfolding affine_point along
returns c = refl
