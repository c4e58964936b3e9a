-- `replay_head::kept::ops` meets its contract. Assumes nothing.
use mathlib.Core.Path.{◌≡◌, refl}
use native.Mathlib.Omega.{arith}
use Prim.Native.Nat.{◌≤◌, ◌-◌, ◌*◌, ◌/◌, min}
use lib.ListN.{length, length-set}
use Rattle.replay_head.specs.Kept.{ops_read}
use Rattle.replay_head.proofs.Reading.{reading_none, reading_more, reading_done}
use Rattle.replay_head.proofs.kept.ops.Given as goal

abbrev pub invariant-loop-i : goal.invariant-loop-i
invariant-loop-i l = (l.i ≤ l.n) × (l.n ≡ min (min (length l.b / 136) l.count) 16) × (length l.out ≡ 16) × (l.out ≡ ops_read l.i l.b)
