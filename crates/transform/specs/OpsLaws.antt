-- One operation more: what the loops over the operations need of their definitions. Assumes nothing.
use Rattle.std.specs.Prelude.{◌≡◌, refl, Bool, ◌&&◌, List, [], ◌∷◌, ◌++◌, ℕ, ◌+◌, ◌<◌, min, length, take, get_or}
use Rattle.std.proofs.Math.Path.{sym, ap₂}
use Rattle.std.proofs.Common.{ap, ◌∙◌, ⊎_elim, add-one, eq-or-lt_of_le, arith, take-suc, take_all}
use Rattle.math_matrix.specs.declared.Mat4.{Mat4}
use Rattle.math_matrix.specs.Mat.{identity, product}
use Rattle.transform.specs.declared.TransformOp.{TransformOp}
use Rattle.transform.specs.Ops.{most_ops, op_matrix, fold_from, folded}
use Rattle.slice.specs.Every.{every}
use Rattle.slice.specs.EveryLaws.{every_after}

-- the first i + 1 operations
pub take_one_more : (ops : List TransformOp) (i : ℕ) (d : TransformOp) → i < length ops → take (i + 1) ops ≡ take i ops ++ (get_or ops i d ∷ [])
take_one_more ops i d h = ap (λ (k : ℕ). take k ops) (add-one i) ∙ take-suc ops i d h

-- a count above the most takes what the most takes
pub take_most : (ops : List TransformOp) (count i : ℕ) → length ops ≡ most_ops → i ≡ min count most_ops → take i ops ≡ take count ops
take_most ops count i l e = ⊎_elim all part (eq-or-lt_of_le {n = i} {m = 16} (omega arith))
  where
    all : i ≡ 16 → take i ops ≡ take count ops
    all h = take_all i ops (omega arith) ∙ sym (take_all count ops (omega arith))

    part : i < 16 → take i ops ≡ take count ops
    part h = let same : i ≡ count = omega arith in ap (λ (k : ℕ). take k ops) same

pub fold_from_one_more : (degrees : Bool) (acc : Mat4) (ops : List TransformOp) (op : TransformOp)
    → fold_from degrees acc (ops ++ (op ∷ [])) ≡ product (op_matrix degrees op) (fold_from degrees acc ops)
unfolding fold_from
fold_from_one_more degrees acc [] op = refl
fold_from_one_more degrees acc (o ∷ ops) op = fold_from_one_more degrees (product (op_matrix degrees o) acc) ops op
