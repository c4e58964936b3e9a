-- `mesh_write::copy_up` meets its contract. Assumes nothing.
use mathlib.Core.Path.{◌≡◌}
use mathlib.Core.List.{map}
use Prim.Native.Nat.{ℕ, ◌≤◌, ◌+◌}
use lib.ListN.{length}
use lib.Seq.{paste}
use Rattle.mesh_write.proofs.copy_up.Given as goal

abbrev pub invariant-loop-i : goal.invariant-loop-i
invariant-loop-i l = (l.i ≤ l.count) × (length l.out ≡ length l.initial.out) × (l.out ≡ paste l.initial.out l.at (map (λ (j : ℕ). j + l.n) l.from) l.i)
