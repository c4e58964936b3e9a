-- One operation more: what the loop over the operations needs of their definition. Assumes nothing.
use Rattle.std.specs.Prelude.{◌≡◌, Bool, List, ◌∷◌, ◌++◌, ℕ, ◌+◌, ◌<◌, length, take, get_or}
use Rattle.std.proofs.Math.Path.{sym, ap₂}
use Rattle.std.proofs.Common.{ap, ◌∙◌}
use Rattle.math_matrix.specs.declared.Mat4.{Mat4}
use Rattle.math_matrix.specs.Mat.{identity, product}
use Rattle.transform.specs.declared.TransformOp.{TransformOp}
use Rattle.transform.specs.Ops.{op_matrix, folded}
use Rattle.transform.specs.OpsLaws.{fold_from_one_more, take_one_more}

module _ (ops : List TransformOp) (i : ℕ) (d : TransformOp) (h : i < length ops) where
  -- the newest operation multiplies from the left
  pub folded_one_more : (degrees : Bool) {acc m r : Mat4} → acc ≡ folded degrees (take i ops) → m ≡ op_matrix degrees (get_or ops i d)
      → r ≡ product m acc → r ≡ folded degrees (take (i + 1) ops)
  unfolding folded
  folded_one_more degrees e f g =
      g ∙ ap₂ product f e
      ∙ sym (ap (folded degrees) (take_one_more ops i d h) ∙ fold_from_one_more degrees identity (take i ops) (get_or ops i d))
