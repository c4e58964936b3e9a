-- `replay_format::ops::op_at` meets its contract. Assumes nothing.
use mathlib.Core.Path.{ap, ◌∙◌}
use Prim.Native.Nat.{ℕ, ◌+◌}
use native.Mathlib.Omega.{arith}
use Rattle.replay_format.specs.Layout.{op_of_kind}
use Rattle.replay_format.proofs.Operations.{same_operation, room}
use Rattle.replay_format.proofs.ops.op_at.Goals as goal

pub op_of_kind-requires : goal.op_of_kind-requires
op_of_kind-requires c = room _ _ _ (omega arith)

pub returns : goal.returns
returns c =
    let s = c.args in
    c.op_of_kind.ensures ∙ same_operation _ s.b.now _ ∙ ap (λ (k : ℕ). op_of_kind k s.b.now (s.at + 8)) (omega arith)
