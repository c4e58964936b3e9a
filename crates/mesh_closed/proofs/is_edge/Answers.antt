-- `mesh_closed::is_edge` meets its contract. Assumes nothing.
use mathlib.Core.Path.{sym, ap}
use mathlib.Core.Bool.{Bool, cond}
use Prim.Native.Nat.{ℕ}
use Rattle.mesh_closed.proofs.is_edge.Goals as goal

pub returns-then-a-u : goal.returns-then-a-u
returns-then-a-u c = sym (ap {B = ℕ} (λ (t : Bool). cond t 1 0) c.if-a-u.true)

pub returns-else-a-u : goal.returns-else-a-u
returns-else-a-u c = sym (ap {B = ℕ} (λ (t : Bool). cond t 1 0) c.if-a-u.false)
