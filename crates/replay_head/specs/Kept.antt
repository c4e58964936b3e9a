-- The sixteen operations of a case, by the bytes that follow its head. Definitions only.
use Rattle.std.specs.Prelude.{List, [], ◌∷◌, ◌++◌, ℕ, zero, suc, ◌*◌, ◌-◌, ◌/◌, min, length, replicate}
use Rattle.transform.specs.declared.TransformOp.{TransformOp}
use Rattle.transform.specs.Ops.{most_ops, no_op}
use Rattle.replay_format.specs.Layout.{op_at}

-- the first n operations, 136 bytes each
unfoldable pub first_ops : ℕ → List ℕ → List TransformOp
first_ops zero b = []
first_ops (suc n) b = first_ops n b ++ (op_at b (136 * n) ∷ [])

-- n operations read, and no operation in the other places of sixteen
abbrev pub ops_read : ℕ → List ℕ → List TransformOp
ops_read n b = first_ops n b ++ replicate (most_ops - n) no_op

-- the operations at the start of the bytes, as many as count says, as the bytes hold and as sixteen places allow
unfoldable pub ops_of : List ℕ → ℕ → List TransformOp
ops_of b count = ops_read (min (min (length b / 136) count) most_ops) b
