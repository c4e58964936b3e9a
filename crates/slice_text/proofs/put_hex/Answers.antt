-- `slice_text::put_hex` meets its contract. Assumes nothing.
use native.Mathlib.Omega.{arith}
use mathlib.Core.Path.{◌∙◌}
use Prim.Native.Nat.{◌≤◌}
use Rattle.slice_text.specs.LineLaws.{puts_same}
use Rattle.slice_text.specs.NumberLaws.{sixteen, fewest_most}
use borrow.Author.Rules.{rules}
use Rattle.slice_text.proofs.put_hex.Goals as goal

pub returns : goal.returns
returns c =
    let d = c.hex-k in
    let s = c in
    let few : d.result ≤ 16 = fewest_most 15 16 16 s.args.n d.result (omega arith) (omega arith) d.ensures.len in
    puts_same (d.ensures.digits ∙ sixteen d.result s.args.n (omega arith)) c.put.ensures
