-- `slice_byte_turn::turn_words` meets its contract. The invariant: the first i and the last i numbers have changed places. Assumes nothing.
use mathlib.Core.Path.{◌≡◌, refl, sym, ap, ◌∙◌, subst}
use Rattle.std.proofs.Common.{rules, arith}
use Prim.Native.Nat.{ℕ, ◌+◌, ◌-◌, ◌/◌, ◌≤◌}
use mathlib.Core.List.{List}
use lib.ListN.{length}
use Rattle.slice_byte_turn.proofs.Turned.{Bytes, Turned, none_turned, one_turned, all_turned, length_exchanged}
use Rattle.slice_byte_turn.proofs.turn_words.Goals as goal

pub loop-i-init : goal.loop-i-init
loop-i-init c =
    let b = c.args.b.now in
    (refl, search rules, none_turned b (length b / 4))

pub loop-i-preserved : goal.loop-i-preserved
loop-i-preserved c =
    let x = c in
    let t = x in
    let l = t.loop-i in
    let b = t.args.b.now in
    let m = length b / 4 in
    let k = m - 1 - l.i in
    let one = one_turned l.b l.i k l.invariant.1 (omega arith) (omega arith) b m (omega arith) l.invariant.2 in (
      ap length x.exchange.ensures ∙ length_exchanged l.b l.i k ∙ l.invariant.0,
      search rules,
      subst (λ (r : List ℕ). Turned b r m (l.i + 1)) (sym x.exchange.ensures) one,
    )

pub shape_of-b : goal.shape_of-b
shape_of-b c = c.loop-i.invariant.0

pub returns : goal.returns
returns c =
    let l = c.loop-i in
    let s = c in
    let b = s.args.b.now in
    all_turned b l.b (length b / 4) s.args.n l.i s.requires.whole (omega arith) s.requires l.invariant.2 l.invariant.0 l.invariant.1
