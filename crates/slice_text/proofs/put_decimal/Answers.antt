-- `slice_text::put_decimal` meets its contract. Assumes nothing.
use native.Mathlib.Omega.{arith}
use mathlib.Core.Path.{◌∙◌}
use Prim.Native.Nat.{◌≤◌}
use Rattle.slice_text.specs.LineLaws.{puts_same}
use Rattle.slice_text.specs.NumberLaws.{fewest_is, fewest_most}
use borrow.Author.Rules.{rules}
use Rattle.slice_text.proofs.put_decimal.Goals as goal

pub returns : goal.returns
returns c =
    let d = c.decimal-k in
    let s = c in
    let few : d.result ≤ 20 = fewest_most 9 20 1 s.args.n d.result (omega arith) (omega arith) d.ensures.len in
    puts_same (d.ensures.digits ∙ fewest_is 20 d.result s.args.n few d.ensures.len) c.put.ensures
