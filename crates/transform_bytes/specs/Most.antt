-- An operation has at most sixteen floats. Assumes nothing.
use Rattle.std.specs.Prelude.{Bool, true, false, cond, ℕ, ◌≤◌, eqb}
use Rattle.std.proofs.Common.{arith}
use Rattle.transform_bytes.specs.Layout.{op_floats}

either : (b : Bool) (x y : ℕ) → x ≤ 16 → y ≤ 16 → cond b x y ≤ 16
either true x y p q = p
either false x y p q = q

pub most_floats : (kind : ℕ) → op_floats kind ≤ 16
unfolding op_floats
most_floats k =
    either (eqb k 1) 3 _ (omega arith)
    (either (eqb k 2) 4 _ (omega arith)
    (either (eqb k 3) 1 _ (omega arith)
    (either (eqb k 4) 1 _ (omega arith)
    (either (eqb k 5) 1 _ (omega arith) (either (eqb k 6) 1 _ (omega arith) (either (eqb k 7) 3 16 (omega arith) (omega arith)))))))
