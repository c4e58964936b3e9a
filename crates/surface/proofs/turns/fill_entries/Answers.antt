-- `surface::turns::fill_entries` meets its contract. The invariant: the entries below k are right. Assumes nothing.
use mathlib.Core.Path.{◌≡◌, refl}
use Prim.Native.Nat.{ℕ, ◌+◌, ◌-◌, ◌≤◌}
use native.Mathlib.Omega.{arith}
use borrow.Author.Count.{below_none}
use lib.ListN.{length, length-set}
use Rattle.surface.specs.Turns.{turn_at, entry}
use Rattle.surface.proofs.Tables.{Entries, entries_more, turns_less}
use Rattle.surface.proofs.turns.fill_entries.Goals as goal

pub loop-k-init : goal.loop-k-init
loop-k-init c = (omega arith, refl, below_none (λ (m : ℕ). entry c.args.table.now m ≡ turn_at c.args.t m))

pub turn_at-requires : goal.turn_at-requires
turn_at-requires c =
    let s = c in
    turns_less s.args.t s.args.n c.loop-k.k (omega arith) s.requires.turns_within

pub loop-k-preserved : goal.loop-k-preserved
loop-k-preserved c =
    let l = c.loop-k in
    let t = c.args.t in
    (omega arith, simp length-set l.invariant.1, entries_more (turn_at t) l.table l.k c.turn_at.result (omega arith) l.invariant.2 c.turn_at.ensures)

pub shape_of-table : goal.shape_of-table
shape_of-table c = c.loop-k.invariant.1

pub returns : goal.returns
returns c = record { long = omega arith; holds = λ k h. c.loop-k.invariant.2 k (omega arith) }
