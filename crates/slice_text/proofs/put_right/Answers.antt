-- `slice_text::put_right` meets its contract. Assumes nothing.
use native.Mathlib.Omega.{arith}
use mathlib.Core.Path.{◌≡◌, ap}
use mathlib.Core.List.{◌++◌}
use Prim.Native.Nat.{ℕ, ◌-◌}
use lib.ListN.{length, replicate}
use Rattle.slice_text.specs.LineLaws.{puts_same, then}
use borrow.Author.Rules.{rules}
use Rattle.slice_text.proofs.put_right.Goals as goal

pub returns-then-width-b : goal.returns-then-width-b
returns-then-width-b c =
    let a = c.args in
    let e : 0 ≡ a.width - length a.b.now = omega arith in
    puts_same (ap (λ (k : ℕ). replicate k 32 ++ a.b.now) e) c.put.ensures

pub returns : goal.returns
returns c = then c.put_spaces-to.ensures c.put-2.ensures
